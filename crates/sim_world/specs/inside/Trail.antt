-- The small changes of an event, as stored while it goes on.
use Rattle.std.specs.Prelude.{◌≡◌, ℕ, zero, suc, ◌+◌, Bool, true, false, cond, IsTrue, List, []}
use Rattle.std.specs.Prelude.{◌∷◌, ◌++◌, map, Option, Some, None}
use Rattle.std.specs.List.{count_by}
use Rattle.std.specs.Option.{option_map}
use Rattle.sim_disk.specs.Disk as disk
use Rattle.sim_node.specs.Node.{NodeRecords}
use Rattle.sim_world.specs.declared.trail.Compact.{Compact}
use Rattle.sim_world.specs.declared.trail.Compact.TheVariants as compact
use Rattle.sim_world.specs.declared.small.Small.{Small}
use Rattle.sim_world.specs.declared.small.Small.TheVariants as small
use Rattle.sim_world.specs.declared.undo.Taken.{Taken}
use Rattle.sim_world.specs.Undone.{is_reaction}
use Rattle.sim_pending.specs.Occurrence.{Body}
use Rattle.sim_world.specs.World.{World}
use Rattle.sim_world.specs.Records.{Fits, back}

-- the changes fit the world now, and lead back from it to the world before
pub record IsTrail {State Msg Undo : Type 0} (records : NodeRecords State Undo)
    (changes : List (Small State Msg Undo)) (before now : World State Msg) : Type 0 where
  pub fits : Fits records changes now
  pub back : back records changes now ≡ before

-- the value of a trail: whether it stores changes, and those stored so far, in order
pub record Changes (State Msg Undo : Type 0) : Type 0 where
  pub keeps : Bool
  pub items : List (Small State Msg Undo)

-- a trail with more changes, if it stores them
abbrev pub added : {State Msg Undo : Type 0} → Changes State Msg Undo → List (Small State Msg Undo)
    → Changes State Msg Undo
added trail changes = cond trail.keeps (record trail { items = trail.items ++ changes }) trail

-- For a trail that stores changes: if the old changes lead back from the old world, the new ones
-- lead back from the new world to the same one, and have `reactions` more reactions. For a trail
-- that stores none, nothing is required.
pub record ExtendsBy {State Msg Undo : Type 0} (reactions : ℕ) (records : NodeRecords State Undo)
    (old : Changes State Msg Undo) (was : World State Msg) (new : Changes State Msg Undo)
    (now : World State Msg) : Type 0 where
  pub keeps : new.keeps ≡ old.keeps
  pub leads : IsTrue old.keeps → (before : World State Msg) → IsTrail records old.items before was
      → IsTrail records new.items before now
  pub count : IsTrue old.keeps → count_by is_reaction new.items ≡ count_by is_reaction old.items
      + reactions

-- no reaction is among the changes between the two
abbrev pub Extends : {State Msg Undo : Type 0} → NodeRecords State Undo
    → Changes State Msg Undo → World State Msg → Changes State Msg Undo → World State Msg → Type 0
Extends records old was new now = ExtendsBy 0 records old was new now

-- the changes that a step made first
abbrev pub taken_changes : {State Msg Undo : Type 0} → Option (Taken Msg)
    → List (Small State Msg Undo)
taken_changes None = []
taken_changes (Some t) = small.Took t.item ∷ small.Timed t.clock ∷ []

-- the reaction stored inline, if there is one
abbrev pub acted_in : {Undo : Type 0} → Bool → ℕ → Option Undo → Option (ℕ × Undo)
acted_in false host undo = None
acted_in true host undo = option_map (λ u. (host, u)) undo

-- the small change that a compact one represents
abbrev pub unboxed : {State Msg Undo : Type 0} → Compact State Msg Undo → Small State Msg Undo
unboxed (compact.TookTimer h due serial) =
    small.Took (record {
      due = due;
      serial = serial;
      body = record {
        host = h;
        body = Body.Timer;
      };
    })
unboxed (compact.Took x) = small.Took x.value
unboxed compact.Queued = small.Queued
unboxed (compact.Timed was) = small.Timed was
unboxed (compact.Drew stream n) = small.Drew stream n
unboxed (compact.Acted h undo) = small.Acted h undo.value
unboxed (compact.Stopped h was) = small.Stopped h was.value
unboxed (compact.Booted h) = small.Booted h
unboxed (compact.Finished h) = small.Finished h
unboxed (compact.Stored h undo) = small.Stored h undo
unboxed (compact.KeptBack a b) = small.KeptBack a b
unboxed (compact.Changed undo dropped) = small.Changed undo dropped.value
unboxed (compact.Released undo count) = small.Released undo count

module _ {State Msg Undo : Type 0} where
  -- a sync came to a host, if there is one
  abbrev pub synced_change : Option (ℕ × disk.DiskUndo) → List (Small State Msg Undo)
  synced_change None = []
  synced_change (Some s) = small.Stored s.0 s.1 ∷ []

  -- one word of a stream was drawn, if there is a stream
  abbrev pub drawn_change : Option ℕ → List (Small State Msg Undo)
  drawn_change None = []
  drawn_change (Some stream) = small.Drew stream 1 ∷ []

  -- the node of a host reacted, if there is one
  abbrev pub acted_change : Option (ℕ × Undo) → List (Small State Msg Undo)
  acted_change None = []
  acted_change (Some a) = small.Acted a.0 a.1 ∷ []

  -- n messages were sent over open directions: for each two words were drawn, and it was queued
  abbrev pub sent_changes : ℕ → List (Small State Msg Undo)
  sent_changes zero = []
  sent_changes (suc n) = sent_changes n ++ small.Drew 0 2 ∷ small.Queued ∷ []

  -- the changes of a trail: those of the usual step, and then any others
  abbrev pub changes_of : Option (ℕ × disk.DiskUndo) → Option ℕ → Option (ℕ × Undo) → ℕ
      → List (Compact State Msg Undo) → List (Small State Msg Undo)
  changes_of synced drawn acted sent others =
      synced_change synced ++ (drawn_change drawn ++ (acted_change acted
      ++ (sent_changes sent ++ map unboxed others)))
