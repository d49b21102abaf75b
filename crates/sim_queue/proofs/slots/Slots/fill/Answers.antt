use Rattle.std.proofs.Common.{◌≡◌, ◌+◌, ◌-◌, ℕ, Some, ap, sym, refl, ◌∙◌, arith, length}
use Rattle.std.proofs.Math.ListN.{set}
use Rattle.sim_queue.specs.inside.Slots.{at}
use Rattle.sim_queue.specs.Items.{items_from}
use Rattle.sim_queue.specs.inside.Sparse.{SlotList, slots_of, index_at}
use Rattle.sim_queue.proofs.Sparse.{no_index, length_slots, items_within, fresh_next, kept_sparse, filled_slots, filled_sparse}
use Rattle.sim_queue.proofs.slots.Slots.fill.Goals as goal

pub put_in-requires-clause-fresh : goal.put_in-requires-clause-fresh
put_in-requires-clause-fresh g c =
    let keys = c.self.inside.wheel in
    let bodies = c.self.inside.bodies.items in
    let places = c.self.inside.places.items in
    let base = c.self.inside.base in
    let count = c.self.inside.count in
    let slots : slots_of keys bodies places ≡ c.args.self.now.items = ap (λ (s : SlotList _). s.items) c.self.view_is in
    let none = no_index keys bodies places base count c.args.place c.self.invariant (ap (λ s. at s c.args.place) slots ∙ c.requires.empty) in
    let e : base + c.args.place - base ≡ c.args.place = omega arith in
    fresh_next keys bodies places base count (base + c.args.place) c.self.invariant (ap (λ (n : ℕ). index_at places n) e ∙ none)

pub invariant_of-self : goal.invariant_of-self
invariant_of-self g c =
    kept_sparse c.self.inside.wheel c.put_in.new.wheel c.self.inside.bodies.items c.put_in.new.bodies.items c.self.inside.places.items c.self.inside.base c.self.inside.count
    c.in_err-at.ensures.keys c.in_err-at.ensures.bodies c.self.invariant

pub overflow_add-self : goal.overflow_add-self
overflow_add-self g c =
    let keys = c.self.inside.wheel in
    let bodies = c.self.inside.bodies.items in
    let places = c.self.inside.places.items in
    let base = c.self.inside.base in
    let count = c.self.inside.count in
    let slots : slots_of keys bodies places ≡ c.args.self.now.items = ap (λ (s : SlotList _). s.items) c.self.view_is in
    let a : count ≡ length (items_from base (slots_of keys bodies places)) = c.self.invariant.counted in
    let b = items_within base (slots_of keys bodies places) in
    let l : length (slots_of keys bodies places) ≡ length c.args.self.now.items = ap (λ s. length s) slots in
    omega arith

pub invariant_of-self-2 : goal.invariant_of-self-2
invariant_of-self-2 g c =
    let keys = c.self.inside.wheel in
    let bodies = c.self.inside.bodies.items in
    let places = c.self.inside.places.items in
    let base = c.self.inside.base in
    let count = c.self.inside.count in
    let slots : slots_of keys bodies places ≡ c.args.self.now.items = ap (λ (s : SlotList _). s.items) c.self.view_is in
    let none = no_index keys bodies places base count c.args.place c.self.invariant (ap (λ s. at s c.args.place) slots ∙ c.requires.empty) in
    let l : length places ≡ length c.args.self.now.items = sym (length_slots keys bodies places) ∙ ap (λ s. length s) slots in
    rw c.to.ensures
    (filled_sparse keys c.put_in.new.wheel bodies c.put_in.new.bodies.items c.in_ok-at.at c.args.due (base + c.args.place) c.args.body c.in_ok-at.ensures.put places base count c.self.invariant
    c.args.place refl (omega arith) none)

pub returns-clause-ok : goal.returns-clause-ok
returns-clause-ok g c =
    let keys = c.self.inside.wheel in
    let bodies = c.self.inside.bodies.items in
    let places = c.self.inside.places.items in
    let base = c.self.inside.base in
    let count = c.self.inside.count in
    let slots : slots_of keys bodies places ≡ c.args.self.now.items = ap (λ (s : SlotList _). s.items) c.self.view_is in
    rw c.to.ensures
    (filled_slots keys c.put_in.new.wheel bodies c.put_in.new.bodies.items c.in_ok-at.at c.args.due (base + c.args.place) c.args.body c.in_ok-at.ensures.put places base count c.self.invariant
    c.args.place ∙ ap (λ s. set s c.args.place (Some (c.args.due, c.args.body))) slots)
