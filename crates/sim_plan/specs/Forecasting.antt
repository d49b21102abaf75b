-- The events that a forecast has yet to give.
use Rattle.std.specs.Prelude.{◌+◌, ◌^◌, ◌<◌, ◌≤◌, List}
use Rattle.std.specs.Option.{ForSome}
use Rattle.rand_chacha.specs.ChaCha.{word_at}
use Rattle.sim_events.specs.declared.Event.{Event}
use Rattle.sim_plan.specs.declared.forecast.Forecast.{Forecast}
use Rattle.sim_plan.specs.Planned.{planned_from}
use Rattle.sim_plan.specs.Owing.{healings}

abbrev pub yet_planned : Forecast → List Event
yet_planned f =
    planned_from (word_at 10 f.rng.key f.rng.stream) f.servers f.hosts f.spacing f.quiet
    f.rng.word_pos f.left (healings f.owed)

-- the numbers of a forecast are within the limits, and its generator does not reach its end
pub record IsForecast (f : Forecast) : Type 0 where
  pub servers : (1 ≤ f.servers) × (f.servers ≤ f.hosts)
  pub hosts : (2 ≤ f.hosts) × (f.hosts ≤ 32)
  pub spacing : ForSome f.spacing (λ s. 1 ≤ s)
  pub words : f.rng.word_pos + f.left < 2 ^ 68
