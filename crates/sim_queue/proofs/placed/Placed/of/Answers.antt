use Rattle.std.proofs.Common.{◌≡◌, ◌+◌, ◌-◌, ◌<◌, ◌≤◌, ℕ, List, None, replicate, ap, sym, subst, ◌∙◌, arith, length}
use Rattle.std.proofs.Math.ListN.{get_or}
use Rattle.sim_queue.specs.declared.Item.{Item}
use Rattle.sim_queue.specs.Packed.{nothing}
use Rattle.sim_queue.specs.inside.Placed.{bodies_of}
use Rattle.sim_queue.specs.inside.Sparse.{slots_of, IsSparse}
use Rattle.sim_queue.proofs.Packing.{empty_pending}
use Rattle.sim_queue.proofs.Placing.{in_places, below_next, no_key, placed_sparse, placed_pending}
use Rattle.sim_queue.proofs.Sparse.{empty_slots, empty_sparse}
use Rattle.sim_queue.proofs.placed.Placed.of.Goals as goal

pub loop-item-init : goal.loop-item-init
loop-item-init g c =
    let base = c.args.base in
    let n = c.args.next_serial - base in
    let bodies = bodies_of c.args.items.now.items in
    let keys = c.in_ok-wheel.wheel in
    let order : base ≤ c.args.next_serial = c.requires.order in
    let size : length keys ≡ 256 = c.in_ok-wheel.ensures.places in
    let sum : base + n ≡ c.args.next_serial = omega arith in
    let empty : c.in_ok-places.places.items ≡ replicate n None = c.in_ok-places.ensures in
    record {
      next = omega arith;
      sparse = subst (λ xs. IsSparse keys bodies xs base 0) (sym empty) (empty_sparse n base keys bodies c.in_ok-wheel.ensures.none);
      pending = empty_pending n base (slots_of keys bodies c.in_ok-places.places.items) (ap (λ xs. slots_of keys bodies xs) empty ∙ empty_slots n keys bodies) ∙ ap (λ (m : ℕ). nothing m) sum;
    }

pub add-requires-clause-small : goal.add-requires-clause-small
add-requires-clause-small g c =
    let items : List (Item _) = c.args.items.now.items in
    let i = c.loop-item.item-index in
    let x = c.item-item.result in
    let inside : i < length items = subst (λ (xs : List (Item _)). i < length xs) c.deref-item-items.ensures.value c.loop-item-test.true in
    let read : x ≡ get_or items i x = subst (λ (xs : List (Item _)). x ≡ get_or xs i x) c.deref-item-items.ensures.value c.item-item.is in
    let below = below_next items c.args.base c.args.next_serial i x inside read c.requires.items c.requires.from c.loop-item.wheel c.loop-item.places.items c.loop-item.invariant.sparse c.loop-item.invariant.pending in
    let small = c.requires.small in
    omega arith

pub add-requires-clause-fresh : goal.add-requires-clause-fresh
add-requires-clause-fresh g c =
    let items : List (Item _) = c.args.items.now.items in
    let i = c.loop-item.item-index in
    let x = c.item-item.result in
    let inside : i < length items = subst (λ (xs : List (Item _)). i < length xs) c.deref-item-items.ensures.value c.loop-item-test.true in
    let read : x ≡ get_or items i x = subst (λ (xs : List (Item _)). x ≡ get_or xs i x) c.deref-item-items.ensures.value c.item-item.is in
    no_key items c.args.base c.args.next_serial i x inside read c.requires.items c.requires.from c.loop-item.wheel c.loop-item.places.items c.loop-item.invariant.sparse c.loop-item.invariant.pending

pub index_mut-requires : goal.index_mut-requires
index_mut-requires g c =
    let items : List (Item _) = c.args.items.now.items in
    let i = c.loop-item.item-index in
    let x = c.item-item.result in
    let inside : i < length items = subst (λ (xs : List (Item _)). i < length xs) c.deref-item-items.ensures.value c.loop-item-test.true in
    let read : x ≡ get_or items i x = subst (λ (xs : List (Item _)). x ≡ get_or xs i x) c.deref-item-items.ensures.value c.item-item.is in
    let within = in_places items c.args.base c.args.next_serial i x inside read c.requires.items c.requires.from c.loop-item.wheel c.loop-item.places.items c.loop-item.invariant.sparse c.loop-item.invariant.pending in
    let len = c.loop-item.places.ok.0 in
    omega arith

pub loop-item-preserved : goal.loop-item-preserved
loop-item-preserved g c =
    let items : List (Item _) = c.args.items.now.items in
    let i = c.loop-item.item-index in
    let x = c.item-item.result in
    let inside : i < length items = subst (λ (xs : List (Item _)). i < length xs) c.deref-item-items.ensures.value c.loop-item-test.true in
    let read : x ≡ get_or items i x = subst (λ (xs : List (Item _)). x ≡ get_or xs i x) c.deref-item-items.ensures.value c.item-item.is in
    let e = c.in_ok-at.ensures in
    let at_i : c.in_ok-at.at ≡ i = e.place ∙ c.loop-item.invariant.next in
    let more = e.next in
    let new = c.add.new.self in
    record {
      next = omega arith;
      sparse = rw c.to.ensures
          (placed_sparse items c.args.base c.args.next_serial i x inside read c.requires.items c.requires.from c.loop-item.wheel c.loop-item.places.items c.loop-item.invariant.sparse c.loop-item.invariant.pending
          c.in_ok-at.at new at_i e.was e.there e.others);
      pending = rw c.to.ensures
          (placed_pending items c.args.base c.args.next_serial i x inside read c.requires.items c.requires.from c.loop-item.wheel c.loop-item.places.items c.loop-item.invariant.sparse c.loop-item.invariant.pending
          c.in_ok-at.at new at_i e.was e.there e.others);
    }
