use Rattle.std.proofs.Common.{◌≡◌, ◌≤◌}
use Rattle.sim_moves.specs.Works.{OnlyTurns}
use Rattle.sim_runs.specs.Running.{IsLooking}
use Rattle.sim_runs.proofs.rewinds.last_failing.Given as goal

abbrev pub invariant-loop : goal.invariant-loop
invariant-loop g l =
    IsLooking g.N.Node.laws g.N.Node.PROBES l.watches l.initial.tape l.counter l.last l.tape
    × OnlyTurns l.counter (g.N.Meter.Meter.work l.initial.meter) (g.N.Meter.Meter.work l.meter)
    × (l.counter ≡ 0 → l.tape.reach ≡ l.initial.tape.reach)
    × (1 ≤ l.counter → l.tape.reach ≡ 0)
