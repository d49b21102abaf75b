use Rattle.std.proofs.Common.{subst}
use Rattle.sim_node.specs.Effects.{AllWithin}
use Rattle.sim_node.proofs.Stored.{AllWithin-seen}
use Rattle.sim_node.proofs.effects.Effects.len.Goals as goal

pub returns-clause-within : goal.returns-clause-within
returns-clause-within g c =
    subst (λ v. AllWithin v.hosts v.list) c.self.view_is (AllWithin-seen c.self.inside.hosts c.self.inside.list.items c.self.invariant.2)
