-- The items of a queue in slots by their serials.
use Rattle.std.specs.Prelude.{◌≡◌, ℕ, ◌<◌, ◌≤◌, Bool, true, false, List, Option, None, Some}
use Rattle.std.specs.Prelude.{slice_index_or}
use Rattle.sim_queue.specs.inside.Wheel.{NotAfter}

-- the slot at a place, none past the end
abbrev pub at : {B : Type 0} → List (Option (ℕ × B)) → ℕ → Option (ℕ × B)
at slots i = slice_index_or slots i None

-- the item in slot i is the first: no other is before it
pub record IsFirstSlot {B : Type 0} (i : ℕ) (slots : List (Option (ℕ × B))) : Type 0 where
  pub entry : ℕ × B
  pub there : at slots i ≡ Some entry
  pub least : (j : ℕ) (e : ℕ × B) → at slots j ≡ Some e → NotAfter entry.0 i e.0 j

abbrev pub HasNoItem : {B : Type 0} → List (Option (ℕ × B)) → Type 0
HasNoItem slots = (i : ℕ) → at slots i ≡ None

-- whether the slot has an entry whose body p accepts
abbrev pub takes : {B : Type 0} → (B → Bool) → Option (ℕ × B) → Bool
takes p None = false
takes p (Some e) = p e.1

-- p accepts no body between two places
abbrev pub Skips : {B : Type 0} → (B → Bool) → List (Option (ℕ × B)) → ℕ → ℕ → Type 0
Skips p slots from to = (j : ℕ) → from ≤ j → j < to → takes p (at slots j) ≡ false

-- i is the first place not below `from` whose body p accepts
abbrev pub IsFound : {B : Type 0} → (B → Bool) → List (Option (ℕ × B)) → ℕ → ℕ → Type 0
IsFound p slots from i = (from ≤ i) × (takes p (at slots i) ≡ true) × Skips p slots from i
