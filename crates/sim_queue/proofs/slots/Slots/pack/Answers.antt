use Rattle.std.proofs.Common.{◌≡◌, ℕ, ◌+◌, ap, sym, subst, ◌∙◌, arith, length}
use Rattle.std.proofs.lemmas.Result.{IfOk-weaker}
use Rattle.sim_queue.specs.Items.{pending}
use Rattle.sim_queue.specs.Packed.{packed, nothing, CanPutAll}
use Rattle.sim_queue.specs.inside.Sparse.{SlotList, slots_of, items_at}
use Rattle.sim_queue.proofs.Finding.{have_bodies}
use Rattle.sim_queue.proofs.Packing.{packed_all, can_all, count_all}
use Rattle.sim_queue.proofs.Sparse.{length_slots}
use Rattle.sim_queue.proofs.slots.Slots.pack.Goals as goal

pub copies-requires-clause-bodies : goal.copies-requires-clause-bodies
copies-requires-clause-bodies g c =
    let i = c.self.inside in
    have_bodies i.wheel i.bodies.items i.places.items i.base i.count c.self.invariant

pub copies-requires-clause-room : goal.copies-requires-clause-room
copies-requires-clause-room g c =
    let i = c.self.inside in
    let all = count_all i.wheel i.bodies.items i.places.items i.base i.count c.self.invariant in
    omega arith

pub returns-clause-value : goal.returns-clause-value
returns-clause-value g c =
    let i = c.self.inside in
    let is : pending i.base (slots_of i.wheel i.bodies.items i.places.items) ≡ pending c.args.self.now.base c.args.self.now.items = ap (λ (s : SlotList _). pending s.base s.items) c.self.view_is in
    let next : i.base + length i.places.items ≡ c.args.self.now.base + length c.args.self.now.items =
    ap (λ (n : ℕ). i.base + n) (sym (length_slots i.wheel i.bodies.items i.places.items)) ∙ ap (λ (s : SlotList _). s.base + length s.items) c.self.view_is in
    IfOk-weaker c.copies.result _ _
    (λ items same. ap (λ xs. packed xs (c.args.self.now.base + length c.args.self.now.items)) same ∙ ap (λ (n : ℕ). packed (items_at (length i.bodies.items) i.wheel i.bodies.items) n) (sym next)
    ∙ packed_all i.wheel i.bodies.items i.places.items i.base i.count c.self.invariant ∙ is)
    c.copies.ensures

pub returns-clause-each : goal.returns-clause-each
returns-clause-each g c =
    let i = c.self.inside in
    let next : i.base + length i.places.items ≡ c.args.self.now.base + length c.args.self.now.items =
    ap (λ (n : ℕ). i.base + n) (sym (length_slots i.wheel i.bodies.items i.places.items)) ∙ ap (λ (s : SlotList _). s.base + length s.items) c.self.view_is in
    IfOk-weaker c.copies.result _ _
    (λ items same. subst (λ xs. CanPutAll xs (nothing (c.args.self.now.base + length c.args.self.now.items))) (sym same)
    (subst (λ (n : ℕ). CanPutAll (items_at (length i.bodies.items) i.wheel i.bodies.items) (nothing n)) next (can_all i.wheel i.bodies.items i.places.items i.base i.count c.self.invariant)))
    c.copies.ensures
