use Rattle.std.proofs.Common.{◌+◌, ◌≤◌, length}
use Rattle.sim_world.specs.Events.{rules}
use Rattle.sim_shrink.specs.Choices.{count_left}
use Rattle.sim_shrink.specs.Passing.{StillFails}
use Rattle.sim_shrink.proofs.case.Case.settle.Given as goal

abbrev pub invariant-loop : goal.invariant-loop
invariant-loop g l =
    StillFails (rules g.N.Node.laws g.N.Node.PROBES l.self.scenario.now) l.self.cond.now l.self.events.now l.choice.stays.items
    × (count_left l.choice.stays.items + l.counter ≤ length l.fn.choice.stays.items)
