use Rattle.std.proofs.Common.{◌≤◌, subst, sym}
use Rattle.sim_node.specs.Effects.{IsLimited}
use Rattle.sim_node.proofs.Stored.{AllWithin-seen, length-seen}
use Rattle.sim_node.proofs.effects.Effects.take_first.Goals as goal

pub returns-clause-limited : goal.returns-clause-limited
returns-clause-limited g c =
    let e = c.self.inside in
    subst (λ v. IsLimited v) c.self.view_is
    (subst (λ n. n ≤ 40) (sym (length-seen e.list.items)) c.self.invariant.0, AllWithin-seen e.hosts e.list.items c.self.invariant.2)
