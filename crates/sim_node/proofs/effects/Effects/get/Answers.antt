use Rattle.std.proofs.Common.{IfSome, subst, sym}
use Rattle.sim_node.specs.Seen.{IsStored, AllStored}
use Rattle.sim_node.proofs.Stored.{stored-found}
use Rattle.sim_node.proofs.effects.Effects.get.Goals as goal

pub returns-clause-stored : goal.returns-clause-stored
returns-clause-stored g c =
    let hosts = c.self.inside.hosts in
    let all = subst (AllStored hosts) (sym c.deref.ensures.value) c.self.invariant.2 in
    subst (λ v. IfSome c.get.result (λ e. IsStored v.hosts e.now)) c.self.view_is
    (stored-found hosts c.deref.result.now c.args.i (λ x. x.now) c.get.result _ all c.get.ensures.lookup.3)
