use Rattle.sim_world.specs.Events.{rules}
use Rattle.sim_shrink.specs.Passing.{IsPassing}
use Rattle.sim_shrink.proofs.case.Case.pass.Given as goal

abbrev pub invariant-loop-from : goal.invariant-loop-from
invariant-loop-from g l =
    IsPassing (rules g.N.Node.laws g.N.Node.PROBES l.self.scenario.now) l.self.cond.now l.self.events.now l.size l.fn.choice.stays.items l.from l.choice.stays.items l.has_dropped
