-- Slots, most of them empty: each has the place of its item's key and body, if it has an item.
use Rattle.std.specs.Prelude.{◌≡◌, ◌≢◌, ℕ, zero, suc, ◌+◌, ◌-◌, ◌≤◌, List, [], ◌∷◌, ◌++◌}
use Rattle.std.specs.Prelude.{length, map, Option, None, Some, slice_index_or}
use Rattle.sim_queue.specs.declared.Item.{Item}
use Rattle.sim_queue.specs.Items.{items_from}
use Rattle.sim_queue.specs.inside.Wheel.{key_at, HasSameBut}

-- slots, the first of which stands for the serial `base`: each has the due and the body of its
-- item, if it has one
pub record SlotList (B : Type 0) : Type 0 where
  pub base : ℕ
  pub items : List (Option (ℕ × B))

-- the place in a slot, none past the end
abbrev pub index_at : List (Option ℕ) → ℕ → Option ℕ
index_at places i = slice_index_or places i None

-- the body at a place, none past the end
abbrev pub body_at : {B : Type 0} → List (Option B) → ℕ → Option B
body_at bodies k = slice_index_or bodies k None

-- the entry at a place: a due with a body
abbrev pub entry : {B : Type 0} → Option (ℕ × ℕ) → Option B → Option (ℕ × B)
entry None body = None
entry (Some key) None = None
entry (Some key) (Some body) = Some (key.0, body)

-- the slot with this place
abbrev pub slot_of : {B : Type 0} → List (Option (ℕ × ℕ)) → List (Option B) → Option ℕ
    → Option (ℕ × B)
slot_of keys bodies None = None
slot_of keys bodies (Some k) = entry (key_at keys k) (body_at bodies k)

abbrev pub slots_of : {B : Type 0} → List (Option (ℕ × ℕ)) → List (Option B) → List (Option ℕ)
    → List (Option (ℕ × B))
slots_of keys bodies places = map (slot_of keys bodies) places

-- the item at a place, if there is one
abbrev pub item_at : {B : Type 0} → Option (ℕ × ℕ) → Option B → List (Item B)
item_at None body = []
item_at (Some key) None = []
item_at (Some key) (Some body) = record { due = key.0; serial = key.1; body = body } ∷ []

-- the items at the first n places, in the order of the places
abbrev pub items_at : {B : Type 0} → ℕ → List (Option (ℕ × ℕ)) → List (Option B) → List (Item B)
items_at zero keys bodies = []
items_at (suc n) keys bodies = items_at n keys bodies ++ item_at (key_at keys n) (body_at bodies n)

abbrev pub HasSameBodies : {B : Type 0} → List (Option B) → List (Option B) → Type 0
HasSameBodies old new = (j : ℕ) → body_at new j ≡ body_at old j

-- an item was put at a place that had no key, and all else is unchanged
pub record IsPut {B : Type 0} (k d s : ℕ) (b : B) (keys new : List (Option (ℕ × ℕ)))
    (bodies more : List (Option B)) : Type 0 where
  pub was : key_at keys k ≡ None
  pub there : key_at new k ≡ Some (d, s)
  pub others : HasSameBut k keys new
  pub body : body_at more k ≡ Some b
  pub rest : (j : ℕ) → j ≢ k → body_at more j ≡ body_at bodies j

-- the item at a place was taken, and all else is unchanged
pub record IsTaken {B : Type 0} (k : ℕ) (keys new : List (Option (ℕ × ℕ)))
    (bodies more : List (Option B)) : Type 0 where
  pub gone : key_at new k ≡ None
  pub others : HasSameBut k keys new
  pub rest : (j : ℕ) → j ≢ k → body_at more j ≡ body_at bodies j

-- the place k holds an item of this serial
pub record IsStored {B : Type 0} (keys : List (Option (ℕ × ℕ))) (bodies : List (Option B))
    (k serial : ℕ) : Type 0 where
  pub due : ℕ
  pub body : B
  pub key : key_at keys k ≡ Some (due, serial)
  pub there : body_at bodies k ≡ Some body

-- a slot has the place of the item of its serial, and each key is that of such an item
pub record IsSparse {B : Type 0} (keys : List (Option (ℕ × ℕ))) (bodies : List (Option B))
    (places : List (Option ℕ)) (base count : ℕ) : Type 0 where
  pub found : (i k : ℕ) → index_at places i ≡ Some k → IsStored keys bodies k (base + i)
  pub from : (k d s : ℕ) → key_at keys k ≡ Some (d, s) → base ≤ s
  pub placed : (k d s : ℕ) → key_at keys k ≡ Some (d, s) → index_at places (s - base) ≡ Some k
  pub counted : count ≡ length (items_from base (slots_of keys bodies places))
