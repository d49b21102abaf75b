use Rattle.std.proofs.Common.{◌≡◌, None}
use Rattle.sim_watch.specs.Condition.{fault_of}
use Rattle.sim_sight.proofs.terms.fails_of.Goals as goal

pub holds-requires : goal.holds-requires
holds-requires g c = rw (c.hosts.ensures.value, c.PROBES.ensures) at c.in-Ok.ensures

pub returns-in-Ok : goal.returns-in-Ok
returns-in-Ok g c =
    let usable : fault_of c.args.world.now.scenario.setup.hosts g.N.Node.PROBES c.args.cond.now ≡ None =
    rw (c.hosts.ensures.value, c.PROBES.ensures) at c.in-Ok.ensures in
    rw (usable, c.holds.ensures)
