-- Items put at places, each at its own place in the list.
use Rattle.std.specs.Prelude.{◌≡◌, ℕ, List, length, map, Option, Some}
use Rattle.sim_queue.specs.declared.Item.{Item}
use Rattle.sim_queue.specs.Items.{pending}
use Rattle.sim_queue.specs.Packed.{packed}
use Rattle.sim_queue.specs.inside.Sparse.{slots_of, IsSparse}

-- the bodies at the places of items
abbrev pub bodies_of : {B : Type 0} → List (Item B) → List (Option B)
bodies_of items = map (λ x. Some x.body) items

-- with these bodies the keys and the slots' places hold the items, and nothing else is pending
pub record ArePlaced {B : Type 0} (items : List (Item B)) (base next : ℕ)
    (keys : List (Option (ℕ × ℕ))) (places : List (Option ℕ)) : Type 0 where
  pub sparse : IsSparse keys (bodies_of items) places base (length items)
  pub pending : pending base (slots_of keys (bodies_of items) places) ≡ packed items next
