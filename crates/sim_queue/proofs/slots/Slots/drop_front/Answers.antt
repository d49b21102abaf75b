use Rattle.std.proofs.Common.{◌≡◌, ◌<◌, ◌≤◌, ◌-◌, ℕ, ap, sym, subst, ◌∙◌, length, vec_len}
use Rattle.sim_queue.specs.inside.Slots.{at}
use Rattle.sim_queue.specs.inside.Sparse.{SlotList, IsSparse, slots_of}
use Rattle.sim_queue.proofs.Fronts.{emptied_front, dropped_sparse, slots_behind}
use Rattle.sim_queue.proofs.Sparse.{no_index, length_slots}
use Rattle.sim_queue.proofs.slots.Slots.drop_front.Goals as goal

pub invariant_of-self : goal.invariant_of-self
invariant_of-self g c =
    let keys = c.self.inside.wheel in
    let bodies = c.self.inside.bodies.items in
    let places = c.self.inside.places.items in
    let base = c.self.inside.base in
    let count = c.self.inside.count in
    let slots : slots_of keys bodies places ≡ c.args.self.now.items = ap (λ (s : SlotList _). s.items) c.self.view_is in
    let lengths : length places ≡ length c.args.self.now.items = sym (length_slots keys bodies places) ∙ ap (λ s. length s) slots in
    let none = λ (i : ℕ) (below : i < c.args.count). no_index keys bodies places base count i c.self.invariant (ap (λ s. at s i) slots ∙ c.requires.empty i below) in
    let within : c.args.count ≤ length places = subst (λ (n : ℕ). c.args.count ≤ n) (sym lengths) c.requires.within in
    let e = emptied_front places c.copy_within.new.self.items c.truncate.new.self.items c.args.count (vec_len c.self.inside.places) _ within c.self.inside.places.ok.0 (ap (λ (n : ℕ). n - c.args.count) c.len.ensures) none c.copy_within.ensures.items c.truncate.ensures.items in
    dropped_sparse c.args.count keys bodies c.truncate.new.self.items base count (subst (λ xs. IsSparse keys bodies xs base count) e c.self.invariant)

pub returns-clause-items : goal.returns-clause-items
returns-clause-items g c =
    let keys = c.self.inside.wheel in
    let bodies = c.self.inside.bodies.items in
    let places = c.self.inside.places.items in
    let base = c.self.inside.base in
    let count = c.self.inside.count in
    let slots : slots_of keys bodies places ≡ c.args.self.now.items = ap (λ (s : SlotList _). s.items) c.self.view_is in
    let lengths : length places ≡ length c.args.self.now.items = sym (length_slots keys bodies places) ∙ ap (λ s. length s) slots in
    let none = λ (i : ℕ) (below : i < c.args.count). no_index keys bodies places base count i c.self.invariant (ap (λ s. at s i) slots ∙ c.requires.empty i below) in
    let within : c.args.count ≤ length places = subst (λ (n : ℕ). c.args.count ≤ n) (sym lengths) c.requires.within in
    let e = emptied_front places c.copy_within.new.self.items c.truncate.new.self.items c.args.count (vec_len c.self.inside.places) _ within c.self.inside.places.ok.0 (ap (λ (n : ℕ). n - c.args.count) c.len.ensures) none c.copy_within.ensures.items c.truncate.ensures.items in
    sym slots ∙ ap (λ xs. slots_of keys bodies xs) e ∙ slots_behind c.args.count keys bodies c.truncate.new.self.items
