use Rattle.std.proofs.Common.{◌≡◌, ◌∙◌, sym, arith, true, false}
use Rattle.example_raft.specs.RaftLog.{is_linked}
use Rattle.example_raft.proofs.LogOn.{log_from-step, log_from-end, log_from-all}
use Rattle.example_raft.proofs.disk.log_on.Goals as goal

pub returns-then-not-is_linked-clause-value : goal.returns-then-not-is_linked-clause-value
returns-then-not-is_linked-clause-value c =
    let loose : is_linked c.args.disk.now c.loop-place.place c.loop-place.before ≡ false = cc in
    sym (c.loop-place.invariant ∙ log_from-end c.args.disk.now c.loop-place.before c.loop-place.log c.loop-place.place c.loop-place-test.true loose)

pub loop-place-preserved : goal.loop-place-preserved
loop-place-preserved c =
    let linked : is_linked c.args.disk.now c.loop-place.place c.loop-place.before ≡ true = cc in
    rw c.entry_on-entry.ensures (c.loop-place.invariant ∙ log_from-step c.args.disk.now c.loop-place.before c.loop-place.log c.loop-place.place c.loop-place-test.true linked)

pub returns-clause-value : goal.returns-clause-value
returns-clause-value c =
    let end : c.loop-place.place ≡ 64 = omega (arith, c.loop-place-test.false, c.loop-place.auto.place-end) in
    sym (c.loop-place.invariant ∙ log_from-all c.args.disk.now c.loop-place.before c.loop-place.log c.loop-place.place end)
