-- A branch: its kept events, a place among them, and its watches; it has no world. Its world is the
-- run of the events before its place.
use Rattle.std.specs.Prelude.{ℕ, ◌+◌, List, ◌++◌, length, take, Option}
use Rattle.std.specs.Option.{unwrap_or}
use Rattle.sim_events.specs.declared.Event.{Event}
use Rattle.sim_world.specs.World.{World}
use Rattle.sim_world.specs.Events.{Rules, run, start}
use Rattle.sim_tape.specs.Tape.{Tape}
use Rattle.sim_watch.specs.Condition.{Cond}

-- the watches are numbered 0 to 7; each is a condition or none
pub record Branch : Type 0 where
  pub events : List Event
  pub place : ℕ
  pub watches : List (Option Cond)

-- a tape and watches as a branch
abbrev pub branch_with : List (Option Cond) → Tape → Branch
branch_with watches t = record { events = t.events; place = t.place; watches = watches }

abbrev pub at_place : ℕ → Branch → Branch
at_place p branch = record branch { place = p }

-- the branch with events added at the end, and its place there
abbrev pub with_events : List Event → Branch → Branch
with_events new branch =
    record branch { events = branch.events ++ new; place = length branch.events + length new }

module _ {State Msg : Type 0} (r : Rules State Msg) where
  -- the world after the first p kept events
  abbrev pub world_at : ℕ → Branch → World State Msg
  world_at p branch = unwrap_or (run r (take p branch.events)) (start r)

  abbrev pub world_of : Branch → World State Msg
  world_of branch = world_at branch.place branch
