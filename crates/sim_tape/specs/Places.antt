-- The world of a tape, and the checkpoints of its run.
use Rattle.std.specs.Prelude.{◌≡◌, ℕ, ◌+◌, ◌*◌, ◌/◌, List, length, Some, slice_get}
use Rattle.sim_events.specs.declared.Event.{Event}
use Rattle.sim_world.specs.World.{World}
use Rattle.sim_world.specs.Events.{Rules}
use Rattle.sim_world.specs.Records.{InHand}
use Rattle.sim_moves.specs.Places.{world_at, IsAt}
use Rattle.sim_tape.specs.Tape.{Tape}

module _ {State Msg : Type 0} (r : Rules State Msg) where
  -- the world of a tape
  abbrev pub world_of : Tape → World State Msg
  world_of t = world_at r t.place t.events

  -- there is a checkpoint at the start and after each interval of events
  pub record AreCheckpoints (events : List Event) (checkpoints : List (InHand State Msg)) : Type 0
    where
      pub count : length checkpoints ≡ length events / r.scenario.interval + 1
      pub worlds : (i : ℕ) (c : InHand State Msg) → slice_get checkpoints i ≡ Some c
          → IsAt r events (i * r.scenario.interval) c
