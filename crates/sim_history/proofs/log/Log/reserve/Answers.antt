use Rattle.std.proofs.Common.{length, arith}
use Rattle.std.specs.Arc.{arc_value}
use Rattle.std.proofs.Math.Nat.{mul-le-mul_right, mul_comm, one-mul}
use Rattle.sim_history.specs.Segments.{entries_of}
use Rattle.sim_history.proofs.Joined.{length-all}
use Rattle.sim_history.proofs.log.Log.reserve.Goals as goal

pub seal-requires-clause-few : goal.seal-requires-clause-few
seal-requires-clause-few c =
    let i = c.self.inside in
    let k = (arc_value i.scenario).interval in
    let n = length i.segments.items in
    let low = c.self.invariant.0.interval.0 in
    let few = c.self.invariant.4 in
    let all = length-all entries_of k i.segments.items i.last.items c.self.invariant.1 in
    let more = mul-le-mul_right {m = 1} {n = k} n low in
    omega (arith, few, all, more, mul_comm k n, one-mul n)
