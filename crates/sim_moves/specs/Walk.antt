-- The run of a log, and a walk at a place of it.
use Rattle.std.specs.Prelude.{◌≡◌, ℕ, ◌+◌, ◌≤◌, List, [], ◌∷◌, ◌++◌, length, Option, IsSome}
use Rattle.std.specs.Option.{MatchOption}
use Rattle.sim_node.specs.Node.{NodeLaws, NodeRecords}
use Rattle.sim_events.specs.declared.Event.{Event}
use Rattle.sim_world.specs.World.{World}
use Rattle.sim_events.specs.Limits.{IsScenario}
use Rattle.sim_world.specs.Events.{Rules, rules, run}
use Rattle.sim_world.specs.Records.{EventRecord as Kept, InHand}
use Rattle.sim_history.specs.Entry.{Entry}
use Rattle.sim_history.specs.Log.{LogView, events_of}
use Rattle.sim_moves.specs.Places.{world_at, IsAt, AreClocks, AreRecords}

-- The kept events can happen one after the other, and each has its clock.
pub record IsRun {State Msg : Type 0} (r : Rules State Msg) (entries : List Entry) : Type 0 where
  pub limits : IsScenario r.scenario
  pub few : length entries ≤ 65536
  pub runs : IsSome (run r (events_of entries))
  pub clocks : AreClocks r entries

-- The world, if there is one, is that at the place, and the records are those of the events before
-- it; a walk without a world has no records.
pub record IsWalk {State Msg Undo : Type 0} (told : State → ℕ)
    (records : NodeRecords State Undo) (r : Rules State Msg)
    (events : List Event) (place : ℕ) (hand : Option (InHand State Msg))
    (undos : List (Kept State Msg Undo)) : Type 0 where
  pub within : place ≤ length events
  pub here : MatchOption hand (undos ≡ []) (λ now. IsAt r events place now)
  pub answers : AreRecords told records r events place undos

module _ {State Msg : Type 0} (laws : NodeLaws State Msg) (probes : ℕ) where
  -- the rules of the run of a log
  abbrev pub rules_in : LogView → Rules State Msg
  rules_in log = rules laws probes log.scenario

  -- the world at the end of a log, and the world after one more event
  abbrev pub world_at_end : LogView → World State Msg
  world_at_end log = world_at (rules_in log) (length log.entries) (events_of log.entries)

  abbrev pub world_after : Event → LogView → World State Msg
  world_after e log =
      world_at (rules_in log) (length log.entries + 1) (events_of log.entries ++ e ∷ [])

  -- a world in hand at a place of a log
  abbrev pub IsAtIn : LogView → ℕ → InHand State Msg → Type 0
  IsAtIn log p now = IsAt (rules_in log) (events_of log.entries) p now

  -- a world in hand after one more event than the log has
  abbrev pub IsAfter : Event → LogView → InHand State Msg → Type 0
  IsAfter e log now =
      IsAt (rules_in log) (events_of log.entries ++ e ∷ []) (length log.entries + 1) now

module _ {State Msg Undo : Type 0} (told : State → ℕ) (records : NodeRecords State Undo)
    (laws : NodeLaws State Msg) (probes : ℕ) where
  -- the records of the last events before a place of a log
  abbrev pub AreRecordsIn : LogView → ℕ → List (Kept State Msg Undo) → Type 0
  AreRecordsIn log p undos =
      AreRecords told records (rules_in laws probes log) (events_of log.entries) p undos

  -- a walk at a place of a log, and one after one more event
  abbrev pub IsWalkIn : LogView → ℕ → Option (InHand State Msg) → List (Kept State Msg Undo)
      → Type 0
  IsWalkIn log p hand undos =
      IsWalk told records (rules_in laws probes log) (events_of log.entries) p hand undos

  abbrev pub IsWalkAfter : Event → LogView → Option (InHand State Msg) → List (Kept State Msg Undo)
      → Type 0
  IsWalkAfter e log hand undos =
      IsWalk told records (rules_in laws probes log) (events_of log.entries ++ e ∷ [])
      (length log.entries + 1) hand undos
