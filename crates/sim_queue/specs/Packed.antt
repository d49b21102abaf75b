-- The value of a packed queue: what is pending once its items, which may be in any order, are put
-- one after the other into a queue in which nothing is pending.
use Rattle.std.specs.Prelude.{ℕ, ◌<◌, ◌≤◌, ◌^◌, List, [], ◌∷◌}
use Rattle.sim_queue.specs.declared.Item.{Item}
use Rattle.sim_queue.specs.Pending.{Pending, put_back, IsPending}

-- with all of these items, put back one after the other
abbrev pub put_all : {B : Type 0} → List (Item B) → Pending B → Pending B
put_all [] q = q
put_all (x ∷ items) q = put_all items (put_back x q)

-- each of the items has a serial that was given and is not pending, once those before it are put
-- back
abbrev pub CanPutAll : {B : Type 0} → List (Item B) → Pending B → Type 0
CanPutAll [] q = Unit {0}
CanPutAll (x ∷ items) q =
    (x.serial < q.next_serial) × ¬ (IsPending x.serial q) × CanPutAll items (put_back x q)

-- nothing is pending, and the next item gets this serial
abbrev pub nothing : {B : Type 0} → ℕ → Pending B
nothing next = record { items = []; next_serial = next }

abbrev pub packed : {B : Type 0} → List (Item B) → ℕ → Pending B
packed items next = put_all items (nothing next)

-- the items can be put in, the next serial is at most 2 ^ 40, and 256 days span at most 2 ^ 64 ms
pub record IsPacked {B : Type 0} (items : List (Item B)) (next width : ℕ) : Type 0 where
  pub each : CanPutAll items (nothing next)
  pub small : next ≤ 2 ^ 40
  pub narrow : width ≤ 56
