use Rattle.std.proofs.Common.{◌≡◌, ◌+◌, ◌≤◌, not, length}
use Rattle.sim_world.specs.Events.{rules, start}
use Rattle.sim_moves.specs.Works.{OnlyTurns}
use Rattle.sim_watch.specs.Condition.{holds}
use Rattle.sim_plan.specs.Happening.{happening}
use Rattle.sim_sweep.specs.Walking.{IsWalking}
use Rattle.sim_sweep.proofs.walk.scan_planned.Given as goal

abbrev pub invariant-loop-event : goal.invariant-loop-event
invariant-loop-event g l =
    let r = rules g.N.Node.laws g.N.Node.PROBES l.scenario in
    IsWalking r l.cond l.at_end (happening r (start r) l.fn.planner) l.spot.place l.spot.world l.event-iterator
    × (l.spot.fails ≡ not (holds g.N.Node.laws l.cond l.spot.world.world))
    × (l.watcher.cond.now ≡ l.cond)
    × (l.spot.place + length l.event-iterator ≤ 65536)
    × OnlyTurns (l.scenario.setup.hosts + l.spot.place) (g.N.Meter.Meter.work l.fn.meter) (g.N.Meter.Meter.work l.meter)
