use Rattle.std.proofs.Common.{◌≡◌, ◌-◌, length, take}
use Rattle.sim_queue.specs.Items.{pending}
use Rattle.sim_queue.specs.Packed.{packed}
use Rattle.sim_queue.specs.inside.Placed.{bodies_of}
use Rattle.sim_queue.specs.inside.Sparse.{slots_of, IsSparse}
use Rattle.sim_queue.proofs.placed.Placed.of.Given as goal

abbrev pub invariant-loop-item : goal.invariant-loop-item
invariant-loop-item g l = record {
  next : length l.wheel - 256 ≡ l.item-index;
  sparse : IsSparse l.wheel (bodies_of l.items.items) l.places.items l.base l.item-index;
  pending : pending l.base (slots_of l.wheel (bodies_of l.items.items) l.places.items)
      ≡ packed (take l.item-index l.items.items) l.next_serial;
}
