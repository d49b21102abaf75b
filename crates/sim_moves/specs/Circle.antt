-- Records in a circle of slots, and what it means to add or remove one.
use Rattle.std.specs.Prelude.{◌≡◌, ℕ, ◌-◌, List, [], ◌∷◌, ◌++◌, length, take, drop, Some}
use Rattle.std.specs.Prelude.{if◌then◌else◌}
use Rattle.std.specs.List.{count_by}
use Rattle.circular_buffer.specs.Buffer.{keep_last, last_item}
use Rattle.sim_node.specs.Node.{NodeRecords}
use Rattle.sim_node.specs.Work.{Work}
use Rattle.sim_events.specs.declared.Event.{Event}
use Rattle.sim_world.specs.World.{World}
use Rattle.sim_world.specs.Acts.{acts}
use Rattle.sim_world.specs.Events.{Rules}
use Rattle.sim_world.specs.Records.{EventRecord as Kept, InHand, LeadsBack, back, AnswersFor}
use Rattle.sim_world.specs.Undone.{is_reaction, taken_back}

module _ {U : Type 0} where
  -- the slots of a circle from one of them on, all the way round
  abbrev pub around : ℕ → List U → List U
  around slot slots = drop slot slots ++ take slot slots

  -- the same from the next slot on
  abbrev pub turned : List U → List U
  turned slots = drop 1 slots ++ take 1 slots

module _ {State Msg Undo : Type 0} (told : State → ℕ) (records : NodeRecords State Undo)
    (r : Rules State Msg) where
  -- An event led from one world to the next, and its record is kept as the newest of at most
  -- `capacity`.
  pub record IsKept (capacity : ℕ) (old : List (Kept State Msg Undo)) (was : World State Msg)
      (e : Event) (new : List (Kept State Msg Undo))
      (now : InHand State Msg) : Type 0 where
    pub undo : Kept State Msg Undo
    pub kept : new ≡ keep_last capacity (old ++ undo ∷ [])
    pub answers : AnswersFor r records undo.changes was e now.world
    pub leads : LeadsBack told records undo now
    pub acted : count_by is_reaction undo.changes ≡ (if acts was e then 1 else 0)

-- The newest record was removed, and led back to the world before its event. The work was that of
-- undoing it.
pub record IsTakenBack {State Msg Undo : Type 0} (records : NodeRecords State Undo)
    (old : List (Kept State Msg Undo)) (now : InHand State Msg)
    (new : List (Kept State Msg Undo)) (was : InHand State Msg) (before after : Work) : Type 0 where
  pub undo : Kept State Msg Undo
  pub newest : last_item old ≡ Some undo
  pub others : new ≡ take (length old - 1) old
  pub is : was ≡ record {
    world = back records undo.changes now.world;
    scenario = now.scenario;
    age = now.age - 1;
  }
  pub work : after ≡ taken_back undo.changes before
