use Rattle.sim_world.specs.Events.{rules}
use Rattle.sim_shrink.specs.Passing.{StillFails}
use Rattle.sim_shrink.proofs.case.Case.halve.Given as goal

abbrev pub invariant-loop-size : goal.invariant-loop-size
invariant-loop-size g l = StillFails (rules g.N.Node.laws g.N.Node.PROBES l.self.scenario.now) l.self.cond.now l.self.events.now l.choice.stays.items

abbrev pub decreases-loop-size : goal.decreases-loop-size
decreases-loop-size g l = l.size
