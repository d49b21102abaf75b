use Rattle.sim_world.specs.Events.{rules}
use Rattle.sim_runs.specs.Running.{IsTicking}
use Rattle.sim_runs.specs.Works.{Adds}
use Rattle.sim_runs.proofs.ticks.add_tick.Given as goal

abbrev pub invariant-loop : goal.invariant-loop
invariant-loop g l =
    IsTicking g.N.Node.laws g.N.Node.PROBES l.end l.initial.tape l.counter l.tape
    × Adds (rules g.N.Node.laws g.N.Node.PROBES l.initial.tape.scenario) l.counter l.tape.events (g.N.Meter.Meter.work l.initial.meter) (g.N.Meter.Meter.work l.meter)
