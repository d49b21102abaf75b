-- The worlds along a list of events, and the records by which events are undone.
use Rattle.std.specs.Prelude.{◌≡◌, ◌≢◌, ℕ, zero, suc, ◌+◌, ◌-◌, ◌*◌, ◌<◌, ◌≤◌, if◌then◌else◌, List}
use Rattle.std.specs.Prelude.{length, take, Some, slice_get, slice_index_or}
use Rattle.std.specs.List.{count_by}
use Rattle.std.specs.Option.{unwrap_or}
use Rattle.sim_node.specs.Node.{NodeRecords}
use Rattle.sim_events.specs.declared.Event.{Event}
use Rattle.sim_events.specs.declared.Event.TheVariants as event
use Rattle.sim_world.specs.World.{World, host_at}
use Rattle.sim_world.specs.Acts.{acts}
use Rattle.sim_world.specs.Events.{Rules, run, start}
use Rattle.sim_world.specs.Records.{EventRecord as Kept, InHand, LeadsBack, back}
use Rattle.sim_world.specs.Undone.{is_reaction}
use Rattle.sim_history.specs.Entry.{Entry}
use Rattle.sim_history.specs.Log.{events_of}

module _ {State Msg : Type 0} (r : Rules State Msg) where
  -- the world after the first p events; each of them can happen
  abbrev pub world_at : ℕ → List Event → World State Msg
  world_at p events = unwrap_or (run r (take p events)) (start r)

  -- from the place p to the next one no host changes but h, which is below 32
  abbrev pub ChangesOnly : ℕ → ℕ → List Event → Type 0
  ChangesOnly h p events =
      (h < 32) × ((k : ℕ) → k ≢ h
      → host_at k (world_at (p + 1) events) ≡ host_at k (world_at p events))

  -- 1 where the event at the place p acts on its world, else 0
  abbrev pub acts_at : ℕ → List Event → ℕ
  acts_at p events = if acts (world_at p events) (slice_index_or events p event.Step) then 1 else 0

  -- the number of the n events from the place p on that act
  abbrev pub acting : ℕ → ℕ → List Event → ℕ
  acting p zero events = 0
  acting p (suc n) events = acts_at p events + acting (p + 1) n events

  -- a world in hand is the one after the first p events
  pub record IsAt (events : List Event) (p : ℕ) (now : InHand State Msg) : Type 0 where
    pub here : run r (take p events) ≡ Some now.world
    pub scenario : now.scenario ≡ r.scenario
    pub age : now.age ≡ p

  -- each event has the clock after it, which is at most that of 65,536 steps of 60,000 ms
  pub record AreClocks (entries : List Entry) : Type 0 where
    pub clock : (i : ℕ) (e : Entry) → slice_get entries i ≡ Some e → e.clock
        ≡ (world_at (i + 1) (events_of entries)).clock
    pub small : (i : ℕ) (e : Entry) → slice_get entries i ≡ Some e → e.clock ≤ 60000 * 65536

module _ {State Msg Undo : Type 0} (told : State → ℕ) (records : NodeRecords State Undo)
    (r : Rules State Msg) where
  -- the world in hand before the event of a record
  abbrev pub before : Kept State Msg Undo → InHand State Msg → InHand State Msg
  before u w =
      record { world = back records u.changes w.world; scenario = w.scenario; age = w.age - 1 }

  -- a record is that of the event at the place p: from the world after it, it leads back to the
  -- world before it
  pub record Answers (events : List Event) (p : ℕ) (u : Kept State Msg Undo) : Type 0 where
    pub leads : (now : InHand State Msg) → IsAt r events (p + 1) now → LeadsBack told records u now
    pub back : (now : InHand State Msg) → IsAt r events (p + 1) now → IsAt r events p (before u now)
    pub acted : count_by is_reaction u.changes ≡ acts_at r p events

  -- the records are those of the last events before the place
  pub record AreRecords (events : List Event) (place : ℕ) (undos : List (Kept State Msg Undo)) :
      Type 0 where
    pub reach : length undos ≤ place
    pub answers : (i : ℕ) (u : Kept State Msg Undo) → slice_get undos i ≡ Some u
        → Answers events (place - length undos + i) u
