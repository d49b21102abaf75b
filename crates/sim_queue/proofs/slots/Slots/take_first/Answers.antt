use Rattle.std.proofs.Common.{◌≡◌, ◌+◌, ◌-◌, ◌≤◌, Some, None, is_some, ap, sym, subst, arith, length}
use Rattle.std.proofs.Math.ListN.{set}
use Rattle.sim_queue.specs.inside.Slots.{at, HasNoItem, IsFirstSlot}
use Rattle.sim_queue.specs.Items.{items_from}
use Rattle.sim_queue.specs.inside.Sparse.{SlotList, slots_of, index_at, IsTaken}
use Rattle.sim_queue.proofs.Sparse.{spot_within, found_slot, items_some, taken_slots, taken_sparse, first_slot, no_slot, got}
use Rattle.sim_queue.proofs.slots.Slots.take_first.Goals as goal

pub returns-in_err-at-clause-none : goal.returns-in_err-at-clause-none
returns-in_err-at-clause-none g c =
    let keys = c.self.inside.wheel in
    let bodies = c.self.inside.bodies.items in
    let places = c.self.inside.places.items in
    rw c.from_residual.ensures
    (subst (λ xs. HasNoItem xs) (ap (λ (s : SlotList _). s.items) c.self.view_is) (no_slot keys bodies places c.self.inside.base c.self.inside.count c.self.invariant c.in_err-at.ensures.none))

pub index_mut-requires : goal.index_mut-requires
index_mut-requires g c =
    let keys = c.self.inside.wheel in
    let bodies = c.self.inside.bodies.items in
    let places = c.self.inside.places.items in
    let base = c.self.inside.base in
    let count = c.self.inside.count in
    let k = c.in_ok-at.at in
    let due = c.remove_first-due.result.0 in
    let serial = c.remove_first-due.result.1 in
    let here : index_at places (serial - base) ≡ Some k = c.self.invariant.placed k due serial c.remove_first-due.ensures.key in
    rw c.self.inside.places.ok.0 (spot_within places (serial - base) k here)

pub overflow_sub-self : goal.overflow_sub-self
overflow_sub-self g c =
    let keys = c.self.inside.wheel in
    let bodies = c.self.inside.bodies.items in
    let places = c.self.inside.places.items in
    let base = c.self.inside.base in
    let count = c.self.inside.count in
    let k = c.in_ok-at.at in
    let due = c.remove_first-due.result.0 in
    let serial = c.remove_first-due.result.1 in
    let here : index_at places (serial - base) ≡ Some k = c.self.invariant.placed k due serial c.remove_first-due.ensures.key in
    let x = c.self.invariant.found (serial - base) k here in
    let some = items_some base (serial - base) (x.due, x.body) (slots_of keys bodies places) (found_slot keys bodies places (serial - base) k (base + (serial - base)) here x) in
    let a : count ≡ length (items_from base (slots_of keys bodies places)) = c.self.invariant.counted in
    omega arith

pub take_body-body-requires : goal.take_body-body-requires
take_body-body-requires g c =
    let keys = c.self.inside.wheel in
    let bodies = c.self.inside.bodies.items in
    let places = c.self.inside.places.items in
    let base = c.self.inside.base in
    let count = c.self.inside.count in
    let k = c.in_ok-at.at in
    let due = c.remove_first-due.result.0 in
    let serial = c.remove_first-due.result.1 in
    let here : index_at places (serial - base) ≡ Some k = c.self.invariant.placed k due serial c.remove_first-due.ensures.key in
    ap (λ o. is_some o) (c.self.invariant.found (serial - base) k here).there

pub invariant_of-self : goal.invariant_of-self
invariant_of-self g c =
    let keys = c.self.inside.wheel in
    let bodies = c.self.inside.bodies.items in
    let places = c.self.inside.places.items in
    let base = c.self.inside.base in
    let count = c.self.inside.count in
    let k = c.in_ok-at.at in
    let due = c.remove_first-due.result.0 in
    let serial = c.remove_first-due.result.1 in
    let here : index_at places (serial - base) ≡ Some k = c.self.invariant.placed k due serial c.remove_first-due.ensures.key in
    let taken : IsTaken k keys c.remove_first-due.new.self bodies c.take_body-body.new.bodies.items =
    record { gone = c.remove_first-due.ensures.gone; others = c.remove_first-due.ensures.others; rest = c.take_body-body.ensures.rest } in
    rw c.none.ensures (taken_sparse keys c.remove_first-due.new.self bodies c.take_body-body.new.bodies.items places base count (serial - base) k taken c.self.invariant here)

pub returns-clause-first : goal.returns-clause-first
returns-clause-first g c =
    let keys = c.self.inside.wheel in
    let bodies = c.self.inside.bodies.items in
    let places = c.self.inside.places.items in
    let base = c.self.inside.base in
    let count = c.self.inside.count in
    let k = c.in_ok-at.at in
    let due = c.remove_first-due.result.0 in
    let serial = c.remove_first-due.result.1 in
    subst (λ (s : SlotList _). IsFirstSlot (serial - s.base) s.items) c.self.view_is
    (first_slot keys bodies places base count k due serial c.self.invariant c.in_ok-at.ensures.first c.remove_first-due.ensures.key)

pub returns-clause-item : goal.returns-clause-item
returns-clause-item g c =
    let keys = c.self.inside.wheel in
    let bodies = c.self.inside.bodies.items in
    let places = c.self.inside.places.items in
    let base = c.self.inside.base in
    let k = c.in_ok-at.at in
    let due = c.remove_first-due.result.0 in
    let serial = c.remove_first-due.result.1 in
    let here : index_at places (serial - base) ≡ Some k = c.self.invariant.placed k due serial c.remove_first-due.ensures.key in
    subst (λ (s : SlotList _). at s.items (serial - s.base) ≡ Some (due, c.take_body-body.result)) c.self.view_is
    (sym (got keys bodies places (serial - base) k due serial c.take_body-body.result here c.remove_first-due.ensures.key c.take_body-body.ensures.body))

pub returns-clause-rest : goal.returns-clause-rest
returns-clause-rest g c =
    let keys = c.self.inside.wheel in
    let bodies = c.self.inside.bodies.items in
    let places = c.self.inside.places.items in
    let base = c.self.inside.base in
    let count = c.self.inside.count in
    let k = c.in_ok-at.at in
    let due = c.remove_first-due.result.0 in
    let serial = c.remove_first-due.result.1 in
    let here : index_at places (serial - base) ≡ Some k = c.self.invariant.placed k due serial c.remove_first-due.ensures.key in
    let taken : IsTaken k keys c.remove_first-due.new.self bodies c.take_body-body.new.bodies.items =
    record { gone = c.remove_first-due.ensures.gone; others = c.remove_first-due.ensures.others; rest = c.take_body-body.ensures.rest } in
    rw c.none.ensures
    (subst (λ (s : SlotList _). slots_of c.remove_first-due.new.self c.take_body-body.new.bodies.items (set places (serial - base) None) ≡ set s.items (serial - s.base) None) c.self.view_is
    (taken_slots keys c.remove_first-due.new.self bodies c.take_body-body.new.bodies.items places base count (serial - base) k taken c.self.invariant here))

pub overflow_sub-serial : goal.overflow_sub-serial
overflow_sub-serial g c = c.self.invariant.from c.in_ok-at.at c.remove_first-due.result.0 c.remove_first-due.result.1 c.remove_first-due.ensures.key

pub returns-clause-from : goal.returns-clause-from
returns-clause-from g c =
    subst (λ (s : SlotList _). s.base ≤ c.remove_first-due.result.1) c.self.view_is
    (c.self.invariant.from c.in_ok-at.at c.remove_first-due.result.0 c.remove_first-due.result.1 c.remove_first-due.ensures.key)
