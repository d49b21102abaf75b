use Rattle.std.proofs.Common.{◌≡◌, ℕ, ◌+◌, ◌<◌, ◌≤◌, length}
use Rattle.std.specs.Vec.{vec_capacity}
use Rattle.sim_queue.specs.inside.Lists.{node, end_of}
use Rattle.sim_queue.proofs.lists.ends.Given as goal

abbrev pub invariant-loop-list : goal.invariant-loop-list
invariant-loop-list l = record {
  len : length l.made.items ≡ l.list;
  room : 256 + l.room ≤ vec_capacity l.made;
  ends : (i : ℕ) → i < l.list → node l.made.items i ≡ end_of l.width i;
}
