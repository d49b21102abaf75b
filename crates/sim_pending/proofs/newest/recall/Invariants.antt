use Rattle.std.proofs.Common.{◌≡◌, [], reverse}
use Rattle.sim_queue.specs.Pending.{uninsert_all}
use Rattle.sim_pending.specs.Recall.{AreNewest, newest_messages}
use Rattle.sim_pending.proofs.newest.recall.Given as goal

abbrev pub invariant-loop-left : goal.invariant-loop-left
invariant-loop-left g l = record {
  newest : AreNewest l.left l.a l.b l.queue;
  queue : uninsert_all l.left l.queue ≡ uninsert_all l.count l.fn.queue;
  messages : newest_messages l.left l.queue (reverse l.messages.items) ≡ newest_messages l.count l.fn.queue [];
}

abbrev pub decreases-loop-left : goal.decreases-loop-left
decreases-loop-left g l = l.left
