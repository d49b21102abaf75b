use Rattle.std.proofs.Common.{ℕ, sym, ap, ◌∙◌}
use Rattle.sim_queue.specs.Items.{pending}
use Rattle.sim_queue.proofs.Fronts.{dropped_pending}
use Rattle.sim_queue.proofs.store.Store.drop_empty.Goals as goal

pub returns-then-empty-len-clause-items : goal.returns-then-empty-len-clause-items
returns-then-empty-len-clause-items g c =
    let base = c.args.self.now.slots.base in
    let slots = c.drop_front.new.self.items in
    ap (λ (n : ℕ). pending n slots) c.drop_front.ensures.base ∙ dropped_pending c.empty_at_front-empty.result base slots ∙ ap (λ s. pending base s) (sym c.drop_front.ensures.items)
