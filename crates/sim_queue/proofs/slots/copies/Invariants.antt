use Rattle.std.proofs.Common.{◌≡◌}
use Rattle.std.specs.Vec.{vec_capacity}
use Rattle.sim_queue.specs.inside.Sparse.{items_at}
use Rattle.sim_queue.proofs.slots.copies.Given as goal

abbrev pub invariant-loop-at : goal.invariant-loop-at
invariant-loop-at g l = record {
  items : l.items.items ≡ items_at l.at l.wheel l.bodies;
  room : vec_capacity l.items ≡ l.count;
}
