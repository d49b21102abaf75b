use Rattle.std.proofs.Common.{Bool, ◌+◌, ◌-◌, ◌<◌}
use Rattle.sim_queue.specs.Pending.{Decides}
use Rattle.sim_queue.specs.inside.Lists.{node, list_of}
use Rattle.sim_queue.specs.inside.Taken.{IsLeastAmong}
use Rattle.sim_queue.specs.inside.Wheel.{keys_of}
use Rattle.sim_queue.proofs.taken.least_taken.Given as goal

abbrev pub invariant-loop-list : goal.invariant-loop-list
invariant-loop-list g l = (p : g.row.B.Denot → Bool) → Decides g.F.Fn l.test p
    → IsLeastAmong p (λ k. list_of l.lists.width (node l.lists.nodes.items (k + 256)) < l.list) (keys_of l.lists.nodes.items) l.bodies.items l.from l.least

abbrev pub decreases-loop-list : goal.decreases-loop-list
decreases-loop-list g l = 256 - l.list
