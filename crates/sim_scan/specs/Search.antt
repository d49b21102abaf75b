-- The first place of a run at which a condition fails, and the pieces into which the places are
-- cut.
use Rattle.std.specs.Prelude.{ℕ, ◌+◌, ◌-◌, ◌*◌, ◌/◌, Bool, false, not, List, Option, Some, None}
use Rattle.std.specs.Prelude.{is_some, take, min, max, replicate}
use Rattle.std.specs.Option.{option_map, option_and_then}
use Rattle.sim_node.specs.Node.{NodeLaws}
use Rattle.sim_node.specs.Numbers.{least}
use Rattle.sim_events.specs.declared.Event.{Event}
use Rattle.sim_events.specs.declared.Event.TheVariants as event
use Rattle.sim_events.specs.Scenario.{Scenario}
use Rattle.sim_world.specs.World.{World}
use Rattle.sim_world.specs.Events.{Rules, rules, run}
use Rattle.sim_events.specs.Seeds.{numbered}
use Rattle.sim_scan.specs.declared.places.Piece.{Piece}
use Rattle.sim_watch.specs.Condition.{Cond, holds}

-- Piece number i of the places from lo to hi: those whose quotient by k is lo / k + i.
abbrev pub pieces : ℕ → ℕ → ℕ → ℕ
pieces lo hi k = hi / k - lo / k + 1

abbrev pub piece : ℕ → ℕ → ℕ → ℕ → Piece
piece lo hi k i = record {
  lo = max lo ((lo / k + i) * k);
  hi = min hi ((lo / k + i) * k + (k - 1));
}

module _ {State Msg : Type 0} (r : Rules State Msg) where
  -- the condition is false of the world
  abbrev pub fails_of : Cond → Option (World State Msg) → Bool
  fails_of c None = false
  fails_of c (Some w) = not (holds r.node c w)

  -- the condition is false of the world after the first p events
  abbrev pub fails_at : Cond → List Event → ℕ → Bool
  fails_at c events p = fails_of c (run r (take p events))

  abbrev pub first_failing : Cond → List Event → ℕ → ℕ → Option ℕ
  first_failing c events lo hi = least (fails_at c events) lo hi

-- A sweep goes through the numbered scenarios. In each it tests the places of a run of at most n
-- steps; a place that no step leads to has no world, and nothing fails there.
module _ {State Msg : Type 0} (node : NodeLaws State Msg) (probes : ℕ) (s : Scenario) where
  abbrev pub failing_of_seed : Cond → ℕ → ℕ → Option ℕ
  failing_of_seed c n i =
      first_failing (rules node probes (numbered i s)) c (replicate n event.Step) 0 n

  -- the least seed number with a failing place, and its least such place
  abbrev pub first_failing_seed : Cond → ℕ → ℕ → ℕ → Option (ℕ × ℕ)
  first_failing_seed c n first count =
      option_and_then (λ i. option_map (λ p. (i, p)) (failing_of_seed c n i))
      (least (λ i. is_some (failing_of_seed c n i)) first (first + count - 1))
