use Rattle.sim_world.specs.Events.{rules}
use Rattle.sim_runs.specs.OnTape.{world_on}
use Rattle.sim_runs.proofs.Stopping.{none_fails}
use Rattle.sim_runs.proofs.stops.failing_here.Goals as goal

pub returns-then-end-eq0 : goal.returns-then-end-eq0
returns-then-end-eq0 g c =
    none_fails (rules g.N.Node.laws g.N.Node.PROBES c.args.tape.now.scenario) c.args.watches.now (world_on g.N.Node.laws g.N.Node.PROBES c.args.tape.now) c.args.end c.if-end-eq0.true c.requires.none
