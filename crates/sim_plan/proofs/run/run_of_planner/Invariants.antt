use Rattle.std.proofs.Common.{◌≡◌, ◌+◌, ◌≤◌, ◌++◌, length}
use Rattle.sim_world.specs.Events.{rules, start}
use Rattle.sim_plan.specs.Happening.{happening}
use Rattle.sim_plan.proofs.run.run_of_planner.Given as goal

abbrev pub invariant-loop-event : goal.invariant-loop-event
invariant-loop-event g l =
    let r = rules g.N.Node.laws g.N.Node.PROBES l.scenario in
    (l.run.items ++ happening r l.world.world l.event-iterator ≡ happening r (start r) l.fn.planner)
    × (l.world.scenario ≡ l.scenario) × (l.world.age + length l.event-iterator ≤ 65536)
