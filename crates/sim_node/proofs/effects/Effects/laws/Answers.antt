use Rattle.std.proofs.Common.{◌≤◌, subst, sym}
use Rattle.sim_node.specs.Effects.{IsLimited}
use Rattle.sim_node.proofs.Stored.{AllWithin-seen, length-seen}
use Rattle.sim_node.proofs.effects.Effects.laws.Goals as goal

pub returns : goal.returns
returns g c =
    let e = c.self.inside in
    subst (λ v. IsLimited v) c.self.view_is
    (subst (λ n. n ≤ 40) (sym (length-seen e.list.items)) c.self.invariant.0, AllWithin-seen e.hosts e.list.items c.self.invariant.2)
