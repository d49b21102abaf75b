use Rattle.std.proofs.Common.{◌∙◌, ap, subst, sym}
use Rattle.sim_world.specs.inside.Held.{IsHeld, in_hand}
use Rattle.sim_world.proofs.packed.PackedWorld.open.Goals as goal

pub invariant_of-result : goal.invariant_of-result
invariant_of-result g c = subst (λ k. IsHeld g.N.Node.told k) (sym c.in_ok-cluster-2.ensures.ok) c.in_ok-cluster.ensures.held

pub returns-clause-same : goal.returns-clause-same
returns-clause-same g c = ap (λ k. in_hand k) c.in_ok-cluster-2.ensures.ok ∙ c.in_ok-cluster.ensures.same

pub returns-clause-work : goal.returns-clause-work
returns-clause-work g c = c.in_ok-cluster.ensures.work
