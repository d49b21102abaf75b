use Rattle.std.proofs.Common.{◌≡◌, ◌+◌, ◌^◌, ◌≤◌, ap, ◌∙◌, arith, length}
use Rattle.sim_queue.specs.Packed.{nothing}
use Rattle.sim_queue.specs.Pending.{Pending}
use Rattle.sim_queue.proofs.Placing.{next_kept}
use Rattle.sim_queue.proofs.store.Store.of.Goals as goal

pub returns-clause-keyed : goal.returns-clause-keyed
returns-clause-keyed g c =
    let s = c.in_ok-of.field-0 in
    let next : s.base + length s.items ≡ c.args.next_serial = ap (λ (q : Pending _). q.next_serial) c.in_ok-of.ensures ∙ next_kept c.args.items.now.items (nothing c.args.next_serial) in
    let small : c.args.next_serial ≤ 2 ^ 40 = c.requires.small in
    omega arith
