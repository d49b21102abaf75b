use Rattle.std.proofs.Common.{◌≤◌, take}
use Rattle.std.specs.List.{All}
use Rattle.sim_queue.proofs.store.first_serial.Given as goal

abbrev pub invariant-loop-item : goal.invariant-loop-item
invariant-loop-item g l = record {
  below : l.least ≤ l.next_serial;
  least : All (λ x. l.least ≤ x.serial) (take l.item-index l.items.items);
}
