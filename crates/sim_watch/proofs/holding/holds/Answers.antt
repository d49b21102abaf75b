use Rattle.sim_watch.proofs.Joining.{one_there, all_there, rest_there, holds_is}
use Rattle.sim_watch.proofs.holding.holds.Goals as goal

pub term_holds-requires-clause-host : goal.term_holds-requires-clause-host
term_holds-requires-clause-host g c =
    let hosts = c.args.world.now.scenario.setup.hosts in
    let js = c.terms-terms.result.now in
    let same = c.terms-terms.ensures.value in
    (all_there hosts g.N.Node.PROBES js c.args.cond.now same c.requires 0 _ (one_there hosts g.N.Node.PROBES js c.args.cond.now same c.requires)).0

pub term_holds-requires-clause-probe : goal.term_holds-requires-clause-probe
term_holds-requires-clause-probe g c =
    let hosts = c.args.world.now.scenario.setup.hosts in
    let js = c.terms-terms.result.now in
    let same = c.terms-terms.ensures.value in
    (all_there hosts g.N.Node.PROBES js c.args.cond.now same c.requires 0 _ (one_there hosts g.N.Node.PROBES js c.args.cond.now same c.requires)).1

pub holds_on-requires : goal.holds_on-requires
holds_on-requires g c =
    rest_there c.args.world.now.scenario.setup.hosts g.N.Node.PROBES c.terms-terms.result.now c.args.cond.now c.terms-terms.ensures.value c.requires

pub returns : goal.returns
returns g c =
    let js = c.terms-terms.result.now in
    let same = c.terms-terms.ensures.value in
    let some = one_there c.args.world.now.scenario.setup.hosts g.N.Node.PROBES js c.args.cond.now same c.requires in
    holds_is g.N.Node.laws c.args.world.now.world js _ c.term_holds.result c.holds_on.result c.args.cond.now some c.term_holds.ensures c.holds_on.ensures same
