use Rattle.std.proofs.Common.{◌∙◌, ◌-◌, ◌<◌, ℕ, List, [], ◌∷◌, reverse, sym, ap, subst, arith}
use Rattle.std.proofs.lemmas.List.{reverse-append}
use Rattle.sim_queue.specs.Pending.{uninsert, uninsert_all}
use Rattle.sim_pending.specs.Recall.{AreNewest, newest_messages}
use Rattle.sim_pending.proofs.Recalls.{newest_rest, uninsert_rest, messages_rest}
use Rattle.sim_pending.proofs.newest.recall.Goals as goal

pub loop-left-preserved : goal.loop-left-preserved
loop-left-preserved g c =
    let i = c.loop-left.invariant in
    let n : ℕ = c.loop-left.left in
    let some : 0 < n = omega arith in
    let out = c.recall_one.ensures in
    record {
      newest = subst (AreNewest (n - 1) c.args.a c.args.b) (sym out.queue) (newest_rest c.args.a c.args.b n c.loop-left.queue some i.newest);
      queue = ap (uninsert_all (n - 1)) out.queue ∙ (uninsert_rest n c.loop-left.queue some ∙ i.queue);
      messages =
          ap (λ q. newest_messages (n - 1) q (reverse c.push.new.self.items)) out.queue
          ∙ (ap (λ (l : List g.row.M.Denot). newest_messages (n - 1) (uninsert c.loop-left.queue) (reverse l)) c.in_ok-push.ensures.items
          ∙ (ap (newest_messages (n - 1) (uninsert c.loop-left.queue)) (reverse-append c.loop-left.messages.items (c.recall_one.result ∷ []))
          ∙ (messages_rest n c.loop-left.queue c.recall_one.result (reverse c.loop-left.messages.items) some out.message ∙ i.messages)));
    }
