use Rattle.std.proofs.Common.{◌≡◌, ◌<◌, ◌≤◌, ◌%◌, suc, cond, nat_lt}
use Rattle.sim_queue.specs.inside.Lists.{node, day, list_of, order_of, key_order, IsLinked}
use Rattle.sim_queue.proofs.lists.Lists.spot_before.Given as goal

abbrev pub invariant-loop-at : goal.invariant-loop-at
invariant-loop-at l = record {
  linked : IsLinked l.self.nodes.items l.at;
  list : list_of l.self.width (node l.self.nodes.items l.at) ≡ day l.self.width l.due % 256;
  below : 256 ≤ (node l.self.nodes.items l.at).after → key_order l.due l.serial < order_of (node l.self.nodes.items (node l.self.nodes.items l.at).after);
}

abbrev pub decreases-loop-at : goal.decreases-loop-at
decreases-loop-at l = cond (nat_lt l.at 256) 0 (suc (order_of (node l.self.nodes.items l.at)))
