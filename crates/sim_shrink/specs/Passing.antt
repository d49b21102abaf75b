-- Passes over the faults that stay: the progress of one.
use Rattle.std.specs.Prelude.{◌≡◌, ℕ, ◌<◌, Bool, true, false, List, length, slice_set}
use Rattle.std.specs.Prelude.{slice_index_or, None, IsSome}
use Rattle.sim_events.specs.declared.Event.{Event}
use Rattle.sim_world.specs.Events.{Rules}
use Rattle.sim_watch.specs.Condition.{Cond}
use Rattle.sim_shrink.specs.Choices.{kept_by, count_left}
use Rattle.sim_shrink.specs.Shrunk.{failing}

module _ {State Msg : Type 0} (r : Rules State Msg) (c : Cond) (es : List Event) where
  -- the condition still fails along the events that a choice keeps
  abbrev pub StillFails : List Bool → Type 0
  StillFails choice = IsSome (failing r c (kept_by choice es))

  -- n faults from number `from` on are dropped if one of them stayed and the condition still fails.
  -- If not, the choice is unchanged.
  pub record IsTried (choice : List Bool) (from n : ℕ) (next : List Bool)
      (is_dropped : Bool) : Type 0 where
    pub fails : StillFails next
    pub long : length next ≡ length choice
    pub fewer : is_dropped ≡ true → count_left next < count_left choice
    pub same : is_dropped ≡ false → next ≡ choice
    pub needed : is_dropped ≡ false → n ≡ 1 → slice_index_or choice from false ≡ true
        → failing r c (kept_by (slice_set choice from false) es) ≡ None

  -- A pass over the faults below number `from` made `choice` of `first`. If it dropped none of them
  -- in parts of one fault, none of them can be dropped alone.
  pub record IsPassing (size : ℕ) (first : List Bool) (from : ℕ) (choice : List Bool)
      (has_dropped : Bool) : Type 0 where
    pub fails : StillFails choice
    pub long : length choice ≡ length first
    pub fewer : has_dropped ≡ true → count_left choice < count_left first
    pub same : has_dropped ≡ false → choice ≡ first
    pub needed : has_dropped ≡ false → size ≡ 1 → (i : ℕ) → i < from → slice_index_or first i false
        ≡ true
        → failing r c (kept_by (slice_set first i false) es) ≡ None
