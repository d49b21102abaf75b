use Rattle.std.proofs.Common.{ℕ, ap, ◌∙◌}
use Rattle.sim_queue.specs.Items.{pending}
use Rattle.sim_queue.specs.Pending.{Pending, insert}
use Rattle.sim_queue.proofs.Packing.{on_ok}
use Rattle.sim_queue.proofs.Views.{inserted}
use Rattle.sim_queue.proofs.store.Store.add.Goals as goal

pub returns-clause-ok : goal.returns-clause-ok
returns-clause-ok g c =
    let s = c.trim.new.self.slots in
    let new = c.push.new.self in
    on_ok c.push.result
    (λ e. ap (λ (n : ℕ). pending n new.items) c.push.ensures.base ∙ e ∙ ap (λ (q : Pending _). insert c.args.due c.args.body q) c.trim.ensures.items)
    (inserted c.push.result s.base s.items new.items c.args.due c.args.body c.push.ensures.ok)
