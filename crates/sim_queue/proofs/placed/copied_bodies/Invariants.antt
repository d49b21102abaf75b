use Rattle.std.proofs.Common.{◌≡◌, ◌≤◌, length, take}
use Rattle.std.specs.Vec.{vec_capacity}
use Rattle.sim_queue.specs.inside.Placed.{bodies_of}
use Rattle.sim_queue.proofs.placed.copied_bodies.Given as goal

abbrev pub invariant-loop-item : goal.invariant-loop-item
invariant-loop-item g l = record {
  bodies : l.bodies.items ≡ bodies_of (take l.item-index l.items.items);
  room : length l.items.items ≤ vec_capacity l.bodies;
}
