use Rattle.std.proofs.Common.{◌-◌}
use Rattle.sim_world.specs.Events.{rules}
use Rattle.sim_runs.specs.Running.{IsRewinding}
use Rattle.sim_runs.specs.Works.{TakesBack}
use Rattle.sim_runs.proofs.rewinds.look_near.Given as goal

abbrev pub invariant-loop-done : goal.invariant-loop-done
invariant-loop-done g l =
    let t = l.initial.tape in
    let W = g.N.Meter.Meter.work in
    IsRewinding g.N.Node.laws g.N.Node.PROBES l.watches t l.done l.tape
    × TakesBack (rules g.N.Node.laws g.N.Node.PROBES t.scenario) l.done (t.place - l.done) t (W l.initial.meter) (W l.meter)
