use Rattle.std.proofs.Common.{◌≡◌, ℕ, None, subst}
use Rattle.sim_watch.specs.Condition.{fault_of}
use Rattle.sim_page.proofs.page.is_held.Goals as goal

pub holds-requires : goal.holds-requires
holds-requires g c =
    let there = subst (λ (h : ℕ). fault_of h c.PROBES.result c.args.cond.now ≡ None) c.hosts.ensures.value c.in-Ok.ensures in
    subst (λ (p : ℕ). fault_of c.args.world.now.scenario.setup.hosts p c.args.cond.now ≡ None) c.PROBES.ensures there
