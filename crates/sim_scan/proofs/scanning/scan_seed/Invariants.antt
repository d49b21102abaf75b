use Rattle.std.proofs.Common.{◌≡◌, ◌+◌, true}
use Rattle.sim_moves.specs.Works.{OnlyTurns}
use Rattle.sim_watch.specs.Condition.{holds}
use Rattle.sim_scan.specs.Scanning.{IsStepping}
use Rattle.sim_scan.proofs.scanning.scan_seed.Given as goal

abbrev pub invariant-loop-place : goal.invariant-loop-place
invariant-loop-place g l =
    let W = g.N.Meter.Meter.work in
    IsStepping g.N.Node.laws g.N.Node.PROBES l.cond l.scenario l.events l.place l.world
    × (holds g.N.Node.laws l.cond l.world.world ≡ true)
    × OnlyTurns (l.scenario.setup.hosts + l.place) (W l.fn.meter) (W l.meter)
