use Rattle.std.proofs.Common.{◌≡◌, ◌+◌, ◌-◌, ℕ, [], ◌∷◌, ◌++◌, Some, ap, sym, subst, ◌∙◌, arith, length}
use Rattle.sim_queue.specs.Items.{items_from}
use Rattle.sim_queue.specs.inside.Sparse.{SlotList, slots_of, IsSparse}
use Rattle.sim_queue.proofs.Sparse.{length_slots, items_within, index_past, fresh_next, kept_sparse, pushed_slots, pushed_sparse}
use Rattle.sim_queue.proofs.slots.Slots.push.Goals as goal

pub put_in-requires-clause-fresh : goal.put_in-requires-clause-fresh
put_in-requires-clause-fresh g c =
    let keys = c.self.inside.wheel in
    let bodies = c.self.inside.bodies.items in
    let places = c.self.inside.places.items in
    let base = c.self.inside.base in
    let count = c.self.inside.count in
    let len : c.len.result ≡ length places = c.len.ensures ∙ c.self.inside.places.ok.0 in
    let past = index_past places (base + c.len.result - base) (omega arith) in
    fresh_next keys bodies places base count (base + c.len.result) c.self.invariant past

pub invariant_of-self-in_err-at : goal.invariant_of-self-in_err-at
invariant_of-self-in_err-at g c =
    rw c.reserve.ensures.items
    (kept_sparse c.self.inside.wheel c.put_in.new.wheel c.self.inside.bodies.items c.put_in.new.bodies.items c.self.inside.places.items c.self.inside.base c.self.inside.count
    c.in_err-at.ensures.keys c.in_err-at.ensures.bodies c.self.invariant)

pub overflow_add-self : goal.overflow_add-self
overflow_add-self g c =
    let keys = c.self.inside.wheel in
    let bodies = c.self.inside.bodies.items in
    let places = c.self.inside.places.items in
    let base = c.self.inside.base in
    let count = c.self.inside.count in
    let slots : slots_of keys bodies places ≡ c.args.self.now.items = ap (λ (s : SlotList _). s.items) c.self.view_is in
    let a : count ≡ length (items_from base (slots_of keys bodies places)) = c.self.invariant.counted in
    let b = items_within base (slots_of keys bodies places) in
    let l : length (slots_of keys bodies places) ≡ length c.args.self.now.items = ap (λ s. length s) slots in
    omega arith

pub invariant_of-self-2 : goal.invariant_of-self-2
invariant_of-self-2 g c =
    let keys = c.self.inside.wheel in
    let bodies = c.self.inside.bodies.items in
    let places = c.self.inside.places.items in
    let base = c.self.inside.base in
    let count = c.self.inside.count in
    let len : c.len.result ≡ length places = c.len.ensures ∙ c.self.inside.places.ok.0 in
    let is : c.push_reserved.new.self.items ≡ places ++ Some c.in_ok-at.at ∷ [] =
    c.push_reserved.ensures.items ∙ ap (λ s. s ++ c.to.result ∷ []) c.reserve.ensures.items ∙ ap (λ o. places ++ o ∷ []) c.to.ensures in
    subst (λ xs. IsSparse c.put_in.new.wheel c.put_in.new.bodies.items xs base (count + 1)) (sym is)
    (pushed_sparse keys c.put_in.new.wheel bodies c.put_in.new.bodies.items c.in_ok-at.at c.args.due (base + c.len.result) c.args.body c.in_ok-at.ensures.put places base count c.self.invariant
    (ap (λ (n : ℕ). base + n) len))

pub returns-clause-ok : goal.returns-clause-ok
returns-clause-ok g c =
    let keys = c.self.inside.wheel in
    let bodies = c.self.inside.bodies.items in
    let places = c.self.inside.places.items in
    let base = c.self.inside.base in
    let count = c.self.inside.count in
    let slots : slots_of keys bodies places ≡ c.args.self.now.items = ap (λ (s : SlotList _). s.items) c.self.view_is in
    let is : c.push_reserved.new.self.items ≡ places ++ Some c.in_ok-at.at ∷ [] =
    c.push_reserved.ensures.items ∙ ap (λ s. s ++ c.to.result ∷ []) c.reserve.ensures.items ∙ ap (λ o. places ++ o ∷ []) c.to.ensures in
    ap (λ xs. slots_of c.put_in.new.wheel c.put_in.new.bodies.items xs) is
    ∙ pushed_slots keys c.put_in.new.wheel bodies c.put_in.new.bodies.items c.in_ok-at.at c.args.due (base + c.len.result) c.args.body c.in_ok-at.ensures.put places base count c.self.invariant
    ∙ ap (λ s. s ++ Some (c.args.due, c.args.body) ∷ []) slots

pub overflow_add-serial : goal.overflow_add-serial
overflow_add-serial g c =
    let keys = c.self.inside.wheel in
    let bodies = c.self.inside.bodies.items in
    let places = c.self.inside.places.items in
    let len : c.len.result ≡ length places = c.len.ensures ∙ c.self.inside.places.ok.0 in
    let slots : length (slots_of keys bodies places) ≡ length c.args.self.now.items = ap (λ (s : SlotList _). length s.items) c.self.view_is in
    let size = length_slots keys bodies places in
    let base : c.self.inside.base ≡ c.args.self.now.base = ap (λ (s : SlotList _). s.base) c.self.view_is in
    let small = c.requires in
    omega arith

pub put_in-requires-clause-small : goal.put_in-requires-clause-small
put_in-requires-clause-small g c =
    let keys = c.self.inside.wheel in
    let bodies = c.self.inside.bodies.items in
    let places = c.self.inside.places.items in
    let len : c.len.result ≡ length places = c.len.ensures ∙ c.self.inside.places.ok.0 in
    let slots : length (slots_of keys bodies places) ≡ length c.args.self.now.items = ap (λ (s : SlotList _). length s.items) c.self.view_is in
    let size = length_slots keys bodies places in
    let base : c.self.inside.base ≡ c.args.self.now.base = ap (λ (s : SlotList _). s.base) c.self.view_is in
    let small = c.requires in
    omega arith

pub returns-clause-serial : goal.returns-clause-serial
returns-clause-serial g c =
    let keys = c.self.inside.wheel in
    let bodies = c.self.inside.bodies.items in
    let places = c.self.inside.places.items in
    let len : c.len.result ≡ length places = c.len.ensures ∙ c.self.inside.places.ok.0 in
    let slots : length (slots_of keys bodies places) ≡ length c.args.self.now.items = ap (λ (s : SlotList _). length s.items) c.self.view_is in
    let size = length_slots keys bodies places in
    let base : c.self.inside.base ≡ c.args.self.now.base = ap (λ (s : SlotList _). s.base) c.self.view_is in
    let small = c.requires in
    omega arith
