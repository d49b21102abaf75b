use Rattle.std.proofs.Common.{◌≤◌, ℕ, ap, subst, ◌∙◌}
use Rattle.sim_queue.specs.Items.{pending}
use Rattle.sim_queue.specs.inside.Sparse.{SlotList}
use Rattle.sim_queue.proofs.Fronts.{either, added_pending}
use Rattle.sim_queue.proofs.store.Store.widen.Goals as goal

pub returns-clause-items : goal.returns-clause-items
returns-clause-items g c =
    let slots = c.args.self.now.slots in
    let count = c.before_first-count.result in
    let from : count ≤ slots.base = subst (λ (n : ℕ). count ≤ n) c.base-base.ensures c.before_first-count.ensures.serials in
    either c.add_front.result c.add_front.ensures.ok c.add_front.ensures.err
    (λ new. ap (λ (s : SlotList _). pending s.base s.items) new ∙ added_pending count slots.base slots.items from)
    (λ same. ap (λ (s : SlotList _). pending s.base s.items) same)
