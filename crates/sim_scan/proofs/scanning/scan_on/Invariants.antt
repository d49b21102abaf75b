use Rattle.std.proofs.Common.{◌-◌}
use Rattle.sim_moves.specs.Works.{OnlyTurns}
use Rattle.sim_scan.specs.Scanning.{IsScanning}
use Rattle.sim_scan.proofs.scanning.scan_on.Given as goal

abbrev pub invariant-loop-place : goal.invariant-loop-place
invariant-loop-place g l =
    let t = l.initial.tape in
    let W = g.N.Meter.Meter.work in
    IsScanning g.N.Node.laws g.N.Node.PROBES l.cond t.scenario t.events t.place l.place l.tape
    × OnlyTurns (l.place - t.place) (W l.initial.meter) (W l.meter)
