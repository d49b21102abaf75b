-- A scan under way: how far it has come.
use Rattle.std.specs.Prelude.{◌≡◌, ℕ, ◌<◌, ◌≤◌, true, false, List, replicate}
use Rattle.sim_node.specs.Node.{NodeLaws}
use Rattle.sim_events.specs.declared.Event.{Event}
use Rattle.sim_events.specs.declared.Event.TheVariants as event
use Rattle.sim_events.specs.Scenario.{Scenario}
use Rattle.sim_world.specs.Records.{InHand}
use Rattle.sim_world.specs.Events.{rules}
use Rattle.sim_moves.specs.Places.{IsAt}
use Rattle.sim_tape.specs.Tape.{Tape}
use Rattle.sim_watch.specs.Condition.{Cond}
use Rattle.sim_scan.specs.Search.{fails_at}

module _ {State Msg : Type 0} (node : NodeLaws State Msg) (probes : ℕ) where
  -- The tape is at a place of a run, and from the place lo to this one the condition does not fail.
  pub record IsScanning (c : Cond) (s : Scenario) (events : List Event) (lo place : ℕ)
      (t : Tape) : Type 0 where
    pub tape : t ≡ record {
      scenario = s;
      events = events;
      place = place;
      warm = true;
      reach = t.reach;
    }
    pub none : (j : ℕ) → lo ≤ j → j ≤ place → fails_at (rules node probes s) c events j ≡ false

  -- The world is that after `place` steps of at most n, and the condition did not fail before.
  pub record IsStepping (c : Cond) (s : Scenario) (n place : ℕ)
      (w : InHand State Msg) : Type 0 where
    pub here : IsAt (rules node probes s) (replicate n event.Step) place w
    pub before : (j : ℕ) → j < place
        → fails_at (rules node probes s) c (replicate n event.Step) j ≡ false
