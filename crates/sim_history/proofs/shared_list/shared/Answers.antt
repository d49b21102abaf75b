use Rattle.std.proofs.Common.{◌<◌, length, arith}
use Rattle.sim_history.proofs.SharedLists.{values_more}
use Rattle.sim_history.proofs.shared_list.shared.Goals as goal

pub loop-i-preserved : goal.loop-i-preserved
loop-i-preserved g c =
    let within = c.requires in
    let lt : c.loop-i.i < length c.args.values.now = omega (arith, within, c.loop-i-test.true) in
    values_more c.args.values.now c.loop-i.shared.items c.push.new.self.items c.loop-i.i c.index-values-i.result c.in_ok-try_clone.field-0 lt c.index-values-i.is c.in_ok-try_clone.ensures
    c.in_ok-push.ensures.items c.loop-i.invariant
