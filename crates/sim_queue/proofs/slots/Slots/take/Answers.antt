use Rattle.std.proofs.Common.{◌≡◌, ◌+◌, Some, None, is_some, ap, sym, ◌∙◌, arith, length}
use Rattle.std.proofs.Math.ListN.{set}
use Rattle.sim_queue.specs.inside.Slots.{at}
use Rattle.sim_queue.specs.Items.{items_from}
use Rattle.sim_queue.specs.inside.Sparse.{SlotList, slots_of, index_at}
use Rattle.sim_queue.proofs.Sparse.{within_slots, read_index, empty_slot, set_none, found_slot, items_some, taken_slots, taken_sparse, item_here}
use Rattle.sim_queue.proofs.slots.Slots.take.Goals as goal

pub returns-in_err-at-clause-rest : goal.returns-in_err-at-clause-rest
returns-in_err-at-clause-rest g c =
    let keys = c.self.inside.wheel in
    let bodies = c.self.inside.bodies.items in
    let places = c.self.inside.places.items in
    let base = c.self.inside.base in
    let count = c.self.inside.count in
    let slots : slots_of keys bodies places ≡ c.args.self.now.items = ap (λ (s : SlotList _). s.items) c.self.view_is in
    let within = within_slots keys bodies places c.args.self.now.items c.args.place slots c.requires in
    let here : index_at places c.args.place ≡ None = read_index places c.args.place c.index.result.now within c.index.ensures ∙ sym c.in_err-at.ensures.place in
    sym (set_none c.args.self.now.items c.args.place (sym (ap (λ s. at s c.args.place) slots) ∙ empty_slot keys bodies places c.args.place here))

pub overflow_sub-self : goal.overflow_sub-self
overflow_sub-self g c =
    let keys = c.self.inside.wheel in
    let bodies = c.self.inside.bodies.items in
    let places = c.self.inside.places.items in
    let base = c.self.inside.base in
    let count = c.self.inside.count in
    let slots : slots_of keys bodies places ≡ c.args.self.now.items = ap (λ (s : SlotList _). s.items) c.self.view_is in
    let within = within_slots keys bodies places c.args.self.now.items c.args.place slots c.requires in
    let here : index_at places c.args.place ≡ Some c.in_ok-at.at = read_index places c.args.place c.index.result.now within c.index.ensures ∙ sym c.in_ok-at.ensures.place in
    let x = c.self.invariant.found c.args.place c.in_ok-at.at here in
    let some = items_some base c.args.place (x.due, x.body) (slots_of keys bodies places) (found_slot keys bodies places c.args.place c.in_ok-at.at (base + c.args.place) here x) in
    let a : count ≡ length (items_from base (slots_of keys bodies places)) = c.self.invariant.counted in
    omega arith

pub take_out-requires-clause-key : goal.take_out-requires-clause-key
take_out-requires-clause-key g c =
    let keys = c.self.inside.wheel in
    let bodies = c.self.inside.bodies.items in
    let places = c.self.inside.places.items in
    let base = c.self.inside.base in
    let count = c.self.inside.count in
    let slots : slots_of keys bodies places ≡ c.args.self.now.items = ap (λ (s : SlotList _). s.items) c.self.view_is in
    let within = within_slots keys bodies places c.args.self.now.items c.args.place slots c.requires in
    let here : index_at places c.args.place ≡ Some c.in_ok-at.at = read_index places c.args.place c.index.result.now within c.index.ensures ∙ sym c.in_ok-at.ensures.place in
    ap (λ o. is_some o) (c.self.invariant.found c.args.place c.in_ok-at.at here).key

pub take_out-requires-clause-body : goal.take_out-requires-clause-body
take_out-requires-clause-body g c =
    let keys = c.self.inside.wheel in
    let bodies = c.self.inside.bodies.items in
    let places = c.self.inside.places.items in
    let base = c.self.inside.base in
    let count = c.self.inside.count in
    let slots : slots_of keys bodies places ≡ c.args.self.now.items = ap (λ (s : SlotList _). s.items) c.self.view_is in
    let within = within_slots keys bodies places c.args.self.now.items c.args.place slots c.requires in
    let here : index_at places c.args.place ≡ Some c.in_ok-at.at = read_index places c.args.place c.index.result.now within c.index.ensures ∙ sym c.in_ok-at.ensures.place in
    ap (λ o. is_some o) (c.self.invariant.found c.args.place c.in_ok-at.at here).there

pub invariant_of-self : goal.invariant_of-self
invariant_of-self g c =
    let keys = c.self.inside.wheel in
    let bodies = c.self.inside.bodies.items in
    let places = c.self.inside.places.items in
    let base = c.self.inside.base in
    let count = c.self.inside.count in
    let slots : slots_of keys bodies places ≡ c.args.self.now.items = ap (λ (s : SlotList _). s.items) c.self.view_is in
    let within = within_slots keys bodies places c.args.self.now.items c.args.place slots c.requires in
    let here : index_at places c.args.place ≡ Some c.in_ok-at.at = read_index places c.args.place c.index.result.now within c.index.ensures ∙ sym c.in_ok-at.ensures.place in
    rw c.none.ensures (taken_sparse keys c.take_out.new.wheel bodies c.take_out.new.bodies.items places base count c.args.place c.in_ok-at.at c.take_out.ensures.taken c.self.invariant here)

pub returns-clause-item : goal.returns-clause-item
returns-clause-item g c =
    let keys = c.self.inside.wheel in
    let bodies = c.self.inside.bodies.items in
    let places = c.self.inside.places.items in
    let base = c.self.inside.base in
    let count = c.self.inside.count in
    let slots : slots_of keys bodies places ≡ c.args.self.now.items = ap (λ (s : SlotList _). s.items) c.self.view_is in
    let within = within_slots keys bodies places c.args.self.now.items c.args.place slots c.requires in
    let here : index_at places c.args.place ≡ Some c.in_ok-at.at = read_index places c.args.place c.index.result.now within c.index.ensures ∙ sym c.in_ok-at.ensures.place in
    rw (← c.self.view_is)
    (item_here keys c.take_out.new.wheel bodies c.take_out.new.bodies.items places base count c.args.place c.in_ok-at.at c.take_out.ensures.taken c.self.invariant here c.take_out.result
    c.take_out.ensures.key c.take_out.ensures.body)

pub returns-clause-rest : goal.returns-clause-rest
returns-clause-rest g c =
    let keys = c.self.inside.wheel in
    let bodies = c.self.inside.bodies.items in
    let places = c.self.inside.places.items in
    let base = c.self.inside.base in
    let count = c.self.inside.count in
    let slots : slots_of keys bodies places ≡ c.args.self.now.items = ap (λ (s : SlotList _). s.items) c.self.view_is in
    let within = within_slots keys bodies places c.args.self.now.items c.args.place slots c.requires in
    let here : index_at places c.args.place ≡ Some c.in_ok-at.at = read_index places c.args.place c.index.result.now within c.index.ensures ∙ sym c.in_ok-at.ensures.place in
    rw c.none.ensures
    (taken_slots keys c.take_out.new.wheel bodies c.take_out.new.bodies.items places base count c.args.place c.in_ok-at.at c.take_out.ensures.taken c.self.invariant here
    ∙ ap (λ s. set s c.args.place None) slots)

pub index-requires : goal.index-requires
index-requires g c =
    let keys = c.self.inside.wheel in
    let bodies = c.self.inside.bodies.items in
    let places = c.self.inside.places.items in
    let slots = ap (λ (s : SlotList _). s.items) c.self.view_is in
    rw c.self.inside.places.ok.0 (within_slots keys bodies places c.args.self.now.items c.args.place slots c.requires)

pub index_mut-requires : goal.index_mut-requires
index_mut-requires g c =
    let keys = c.self.inside.wheel in
    let bodies = c.self.inside.bodies.items in
    let places = c.self.inside.places.items in
    let slots = ap (λ (s : SlotList _). s.items) c.self.view_is in
    rw c.self.inside.places.ok.0 (within_slots keys bodies places c.args.self.now.items c.args.place slots c.requires)
