-- The work of a run, a tick and a rewind: the turns, copies and undos of nodes that a meter counts.
use Rattle.std.specs.Prelude.{◌≡◌, ℕ, zero, suc, ◌+◌, ◌-◌, ◌*◌, ◌/◌, ◌≤◌, nat_lt, List, length}
use Rattle.std.specs.Prelude.{if◌then◌else◌}
use Rattle.sim_node.specs.Work.{Work}
use Rattle.sim_events.specs.declared.Event.{Event}
use Rattle.sim_world.specs.Acts.{running}
use Rattle.sim_world.specs.Events.{Rules}
use Rattle.sim_tape.specs.Tape.{Tape}
use Rattle.sim_moves.specs.Places.{acting, world_at}
use Rattle.sim_moves.specs.Works.{undone_by, Plays}
use Rattle.sim_tape.specs.Works.{TakesAtMost, nodes_below, nodes_made}

module _ {State Msg : Type 0} (r : Rules State Msg) where
  -- the n events from place p on are undone, and nothing else is done
  abbrev pub TakesBack : ℕ → ℕ → Tape → Work → Work → Type 0
  TakesBack n p t old new = new ≡ undone_by (acting r p n t.events) old

  -- The last n of these events were added: at most a turn for each, no undo, and a copy of the
  -- world at each multiple of the interval.
  abbrev pub Adds : ℕ → List Event → Work → Work → Type 0
  Adds n events old new = Plays n (nodes_made r (length events - n) n events) old new

  -- the number of stretches from `low` on, below `high`: one for each interval with a place there
  abbrev pub stretches : ℕ → ℕ → ℕ
  stretches low high =
      if nat_lt low high
      then (high - 1) / r.scenario.interval - low / r.scenario.interval + 1
      else 0

  -- the number of nodes copied for n checkpoints, from that of the j-th interval on, once each
  abbrev pub nodes_from : ℕ → ℕ → List Event → ℕ
  nodes_from j zero events = 0
  nodes_from j (suc n) events =
      running (world_at r (j * r.scenario.interval) events) + nodes_from (j + 1) n events

  -- The work to test the places from `low` on, below `high`: for each stretch fewer turns than the
  -- interval and at most one copy of its checkpoint. A jump goes to the last of these places.
  abbrev pub Looks : ℕ → ℕ → Tape → Work → Work → Type 0
  Looks low high t old new =
      TakesAtMost (stretches low high * (r.scenario.interval - 1) + (r.scenario.interval - 1))
      (nodes_from (low / r.scenario.interval) (stretches low high) t.events
      + nodes_below r low t.events) old new

  -- at most the reactions by which the last n events before the place act were undone
  abbrev pub UndoesAtMost : ℕ → Tape → Work → Work → Type 0
  UndoesAtMost n t old new = new.undos ≤ old.undos + acting r (t.place - n) n t.events
