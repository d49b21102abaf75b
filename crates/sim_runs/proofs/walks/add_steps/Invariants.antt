use Rattle.sim_world.specs.Events.{rules}
use Rattle.sim_runs.specs.Running.{IsRunning}
use Rattle.sim_runs.specs.Works.{Adds}
use Rattle.sim_runs.proofs.walks.add_steps.Given as goal

abbrev pub invariant-loop-added : goal.invariant-loop-added
invariant-loop-added g l =
    IsRunning g.N.Node.laws g.N.Node.PROBES l.count l.watches l.initial.tape l.added l.tape
    × Adds (rules g.N.Node.laws g.N.Node.PROBES l.initial.tape.scenario) l.added l.tape.events (g.N.Meter.Meter.work l.initial.meter) (g.N.Meter.Meter.work l.meter)
