use Rattle.std.proofs.Common.{Bool, ◌≡◌, ◌+◌, suc, cond, nat_lt}
use Rattle.sim_queue.specs.Pending.{Decides}
use Rattle.sim_queue.specs.inside.Lists.{node, list_of, order_of, IsLinked}
use Rattle.sim_queue.specs.inside.Taken.{IsLeastAmong}
use Rattle.sim_queue.specs.inside.Wheel.{keys_of}
use Rattle.sim_queue.proofs.Ordered.{IsPast}
use Rattle.sim_queue.proofs.taken.least_in.Given as goal

abbrev pub invariant-loop-at : goal.invariant-loop-at
invariant-loop-at g l = record {
  linked : IsLinked l.lists.nodes.items l.at;
  list : list_of l.lists.width (node l.lists.nodes.items l.at) ≡ l.list;
  seen : (p : g.row.B.Denot → Bool) → Decides g.F.Fn l.test p
      → IsLeastAmong p (λ k. IsPast l.lists.width l.lists.nodes.items l.list l.at (k + 256)) (keys_of l.lists.nodes.items) l.bodies.items l.from l.least;
}

abbrev pub decreases-loop-at : goal.decreases-loop-at
decreases-loop-at g l = cond (nat_lt l.at 256) 0 (suc (order_of (node l.lists.nodes.items l.at)))
