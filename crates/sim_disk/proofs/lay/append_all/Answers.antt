use Rattle.std.proofs.Common.{◌∙◌, ◌++◌, ap, take}
use Rattle.std.proofs.lemmas.List.{take_all}
use Rattle.std.proofs.lemmas.Result.{IfOk-from_err}
use Rattle.sim_disk.proofs.Laid.{next_added}
use Rattle.sim_disk.proofs.lay.append_all.Goals as goal

pub returns-in_err-push : goal.returns-in_err-push
returns-in_err-push c = record {
  ok = IfOk-from_err c.from_residual.result _ c.from_residual.ensures.0;
  grown = (take c.loop-write.write-index c.args.writes.now, c.in_err-push.ensures.items ∙ c.loop-write.invariant);
}

pub loop-write-preserved : goal.loop-write-preserved
loop-write-preserved c =
    next_added c.args.all.now.items c.args.writes.now c.loop-write.all.items c.push.new.self.items c.loop-write.write-index c.copy.result c.write-item.result
    c.loop-write.invariant c.in_ok-push.ensures.items c.copy.ensures c.write-item.is c.loop-write-test.true

pub returns : goal.returns
returns c = record {
  ok = c.loop-write.invariant ∙ ap (λ xs. c.args.all.now.items ++ xs) (take_all c.loop-write.write-index c.args.writes.now c.loop-write-test.false);
  grown = (take c.loop-write.write-index c.args.writes.now, c.loop-write.invariant);
}
