-- The slots of directions: the links that a table represents, and its invariant.
use Rattle.std.specs.Prelude.{◌≡◌, ◌==◌, ℕ, ◌+◌, ◌<◌, ◌≤◌, List, length, map, count_by}
use Rattle.std.specs.Prelude.{slice_index_or, vec_capacity}
use Rattle.std.specs.List.{All}
use Rattle.sim_links.specs.Link.{Links, open_link}
use Rattle.sim_links.specs.declared.table.Table.{Table}

-- each direction is the one in its slot
abbrev pub links_in : {M : Type 0} → Table M → Links M
links_in t = map (λ slot. slice_index_or t.touched.items slot open_link) t.slots.items

-- the slot of the direction at a place
abbrev pub slot_at : {M : Type 0} → ℕ → Table M → ℕ
slot_at place t = slice_index_or t.slots.items place 0

-- The slots are below a count, and no two directions share one other than slot 0. The slots from 1
-- on are as many as the directions that are not in slot 0.
pub record AreSlots (slots : List ℕ) (count : ℕ) : Type 0 where
  pub below : All (λ slot. slot < count) slots
  pub apart : (p q : ℕ) → p < length slots → q < length slots → 0 < slice_index_or slots p 0
      → slice_index_or slots p 0 ≡ slice_index_or slots q 0 → p ≡ q
  pub free : count + count_by (λ slot. slot == 0) slots ≡ length slots + 1

-- The slots are those of the touched directions, the first of which is open. There is room for all.
-- No direction from the place `past` on was touched.
pub record IsSound {M : Type 0} (t : Table M) : Type 0 where
  pub whole : length t.slots.items ≡ 1024
  pub slots : AreSlots t.slots.items (length t.touched.items)
  pub first : slice_index_or t.touched.items 0 open_link ≡ open_link
  pub room : 1024 < vec_capacity t.touched
  pub end : t.past ≤ 1024
  pub rest : (place : ℕ) → t.past ≤ place → slot_at place t ≡ 0
