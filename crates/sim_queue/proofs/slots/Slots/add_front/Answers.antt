use Rattle.std.proofs.Common.{rules, ◌≡◌, ◌≤◌, ◌+◌, ◌-◌, ◌++◌, ℕ, None, replicate, ap, sym, subst, ◌∙◌, vec_len}
use Rattle.sim_queue.specs.inside.Sparse.{SlotList, IsSparse, slots_of}
use Rattle.sim_queue.proofs.Fronts.{widened_front, added_sparse, slots_behind}
use Rattle.sim_queue.proofs.slots.Slots.add_front.Goals as goal

pub invariant_of-self-2 : goal.invariant_of-self-2
invariant_of-self-2 g c =
    let keys = c.self.inside.wheel in
    let bodies = c.self.inside.bodies.items in
    let places = c.self.inside.places.items in
    let from : c.args.count ≤ c.self.inside.base = subst (λ (n : ℕ). c.args.count ≤ n) (sym (ap (λ (s : SlotList _). s.base) c.self.view_is)) c.requires in
    let len : c.in-Some.len ≡ vec_len c.self.inside.places + c.args.count = search rules in
    let e = widened_front places c.resize.new.self.items c.rotate_right.new.self.items c.none.result c.args.count c.in-Some.len (vec_len c.self.inside.places) (vec_len c.resize.new.self)
    c.none.ensures c.self.inside.places.ok.0 len c.in_ok-resize.ensures.len c.in_ok-resize.ensures.items c.rotate_right.ensures.items in
    subst (λ xs. IsSparse keys bodies xs (c.self.inside.base - c.args.count) c.self.inside.count) (sym e)
    (added_sparse c.args.count keys bodies places c.self.inside.base c.self.inside.count from c.self.invariant)

pub returns-clause-ok : goal.returns-clause-ok
returns-clause-ok g c =
    let keys = c.self.inside.wheel in
    let bodies = c.self.inside.bodies.items in
    let places = c.self.inside.places.items in
    let len : c.in-Some.len ≡ vec_len c.self.inside.places + c.args.count = search rules in
    let e = widened_front places c.resize.new.self.items c.rotate_right.new.self.items c.none.result c.args.count c.in-Some.len (vec_len c.self.inside.places) (vec_len c.resize.new.self)
    c.none.ensures c.self.inside.places.ok.0 len c.in_ok-resize.ensures.len c.in_ok-resize.ensures.items c.rotate_right.ensures.items in
    let slots = ap (λ xs. slots_of keys bodies xs) e ∙ slots_behind c.args.count keys bodies places ∙ ap (λ xs. replicate c.args.count None ++ xs) (ap (λ (s : SlotList _). s.items) c.self.view_is) in
    let base : c.self.inside.base - c.args.count ≡ c.args.self.now.base - c.args.count = ap (λ (s : SlotList _). s.base - c.args.count) c.self.view_is in
    λ i. record { base = base i; items = slots i }
