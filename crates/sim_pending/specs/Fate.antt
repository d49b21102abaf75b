-- What becomes of a message over an open link. It takes two words of the network's stream: by the
-- second it is lost, by the first it is late.
use Rattle.std.specs.Prelude.{ℕ, ◌+◌, ◌-◌, ◌%◌, nat_lt, Bool}
use Rattle.sim_links.specs.declared.Way.{Way}

abbrev pub is_lost : Way → ℕ → Bool
is_lost way word = nat_lt (word % 1000) way.loss

-- in milliseconds
abbrev pub latency : Way → ℕ → ℕ
latency way word = way.latency_min + word % (way.latency_max - way.latency_min + 1)
