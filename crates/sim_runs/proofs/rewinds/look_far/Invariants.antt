use Rattle.std.proofs.Common.{◌≡◌}
use Rattle.sim_world.specs.Events.{rules}
use Rattle.sim_runs.specs.Running.{IsPast, IsLooked}
use Rattle.sim_runs.proofs.Undoing.{IsSpent}
use Rattle.sim_runs.proofs.Reaching.{HasReach}
use Rattle.sim_runs.proofs.rewinds.look_far.Given as goal

abbrev pub invariant-loop-high : goal.invariant-loop-high
invariant-loop-high g l =
    let t = l.initial.tape in
    let W = g.N.Meter.Meter.work in
    IsPast g.N.Node.laws g.N.Node.PROBES l.watches t l.to l.high l.tape
    × IsLooked (rules g.N.Node.laws g.N.Node.PROBES t.scenario) l.to l.high t.place t.events (W l.initial.meter) (W l.meter)
    × IsSpent l.to l.high l.tape
    × ((W l.meter).undos ≡ (W l.initial.meter).undos)
    × HasReach l.high t l.tape

abbrev pub decreases-loop-high : goal.decreases-loop-high
decreases-loop-high g l = l.high
