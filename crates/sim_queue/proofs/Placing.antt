-- Items get places, one after the other; their bodies are there before.
use Rattle.std.proofs.Common.{◌≡◌, ◌≢◌, ℕ, ◌+◌, ◌-◌, ◌<◌, ◌≤◌, List, [], ◌∷◌, take, Option, None, Some, refl, sym, ap, ◌∙◌, subst, arith, length}
use Rattle.std.proofs.Math.ListN.{get_or, set, get_or-map}
use Rattle.std.proofs.lemmas.List.{get_or_default, length-map}
use Rattle.std.specs.List.{All}
use Rattle.sim_queue.specs.declared.Item.{Item}
use Rattle.sim_queue.specs.Items.{items_from, pending}
use Rattle.sim_queue.specs.Packed.{packed, put_all, nothing, CanPutAll}
use Rattle.sim_queue.specs.Pending.{Pending, put_back, with_serial, IsPending}
use Rattle.sim_queue.specs.inside.Placed.{bodies_of}
use Rattle.sim_queue.specs.inside.Sparse.{body_at, index_at, slots_of, IsPut, IsSparse}
use Rattle.sim_queue.specs.inside.Wheel.{key_at, HasSameBut}
use Rattle.sim_queue.proofs.Laws.{not_found}
use Rattle.sim_queue.proofs.Packing.{can_at, put_all-more, taken_more}
use Rattle.sim_queue.proofs.Sparse.{length_slots, no_index, fresh_next, filled_slots, filled_sparse}
use Rattle.sim_queue.proofs.Views.{empty_at, put_again}

pub next_kept : {B : Type 0} (items : List (Item B)) (q : Pending B) → (put_all items q).next_serial ≡ q.next_serial
next_kept [] q = refl
next_kept (x ∷ items) q = next_kept items (put_back x q)

-- the item x is the next one
module _ {B : Type 0} (items : List (Item B)) (base next i : ℕ) (x : Item B) (inside : i < length items) (read : x ≡ get_or items i x) (can : CanPutAll items (nothing next))
    (least : All (λ (y : Item B). base ≤ y.serial) items) (keys : List (Option (ℕ × ℕ))) (places : List (Option ℕ)) (sparse : IsSparse keys (bodies_of items) places base i)
    (before : pending base (slots_of keys (bodies_of items) places) ≡ packed (take i items) next) where
  reached : base ≤ x.serial
  reached = subst (λ (y : Item B). base ≤ y.serial) (sym read) (least i x inside)

  made : x.serial < base + length (slots_of keys (bodies_of items) places)
  made = subst (λ (q : Pending B). x.serial < q.next_serial) (sym before) (can_at items i x (nothing next) inside read can).0

  absent : with_serial x.serial (items_from base (slots_of keys (bodies_of items) places)) ≡ None
  absent = not_found x.serial (items_from base (slots_of keys (bodies_of items) places))
      (λ h. (can_at items i x (nothing next) inside read can).1 (subst (λ (q : Pending B). IsPending x.serial q) before h))

  no_place : index_at places (x.serial - base) ≡ None
  no_place = no_index keys (bodies_of items) places base i (x.serial - base) sparse (empty_at x.serial base (slots_of keys (bodies_of items) places) reached absent)

  pub in_places : x.serial - base < length places
  in_places =
      let a = made in
      let b = reached in
      let l : length (slots_of keys (bodies_of items) places) ≡ length places = length_slots keys (bodies_of items) places in
      omega arith

  pub below_next : x.serial < next
  below_next =
      let a = made in
      let e : base + length (slots_of keys (bodies_of items) places) ≡ next = ap (λ (q : Pending B). q.next_serial) before ∙ next_kept (take i items) (nothing next) in
      omega arith

  pub no_key : (k d : ℕ) → key_at keys k ≢ Some (d, x.serial)
  no_key = fresh_next keys (bodies_of items) places base i x.serial sparse no_place

  body_there : body_at (bodies_of items) i ≡ Some x.body
  body_there =
      let size : length (bodies_of items) ≡ length items = length-map items (λ (y : Item B). Some y.body) in
      get_or_default (bodies_of items) i None (Some x.body) (omega arith) ∙ get_or-map (λ (y : Item B). Some y.body) items i x ∙ ap (λ (y : Item B). Some y.body) (sym read)

  -- it gets the place k
  module _ (k : ℕ) (new : List (Option (ℕ × ℕ))) (at_i : k ≡ i) (was : key_at keys k ≡ None) (there : key_at new k ≡ Some (x.due, x.serial)) (others : HasSameBut k keys new) where
    put : IsPut k x.due x.serial x.body keys new (bodies_of items) (bodies_of items)
    put = record {
      was = was;
      there = there;
      others = others;
      body = ap (λ (n : ℕ). body_at (bodies_of items) n) at_i ∙ body_there;
      rest = λ j apart. refl;
    }

    pub placed_sparse : IsSparse new (bodies_of items) (set places (x.serial - base) (Some k)) base (i + 1)
    placed_sparse = filled_sparse keys new (bodies_of items) (bodies_of items) k x.due x.serial x.body put places base i sparse (x.serial - base)
        (let a = reached in omega arith) in_places no_place

    pub placed_pending : pending base (slots_of new (bodies_of items) (set places (x.serial - base) (Some k))) ≡ packed (take (i + 1) items) next
    placed_pending =
        put_again x base (slots_of keys (bodies_of items) places) (slots_of new (bodies_of items) (set places (x.serial - base) (Some k))) reached made absent
        (filled_slots keys new (bodies_of items) (bodies_of items) k x.due x.serial x.body put places base i sparse (x.serial - base))
        ∙ ap (λ (q : Pending B). put_back x q) before
        ∙ sym (put_all-more (take i items) x (nothing next)) ∙ ap (λ (xs : List (Item B)). packed xs next) (taken_more items i x inside read)
