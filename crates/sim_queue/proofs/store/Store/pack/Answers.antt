use Rattle.std.proofs.Common.{◌∙◌, ap, ℕ}
use Rattle.sim_queue.specs.Packed.{packed}
use Rattle.sim_queue.proofs.store.Store.pack.Goals as goal

pub of-requires : goal.of-requires
of-requires g c = record {
  each = rw c.next_serial.ensures c.in_ok-items.ensures.each;
  small = rw c.next_serial.ensures c.requires.keyed;
  narrow = c.width.ensures;
}

pub returns : goal.returns
returns g c = c.of.ensures ∙ ap (λ (n : ℕ). packed c.in_ok-items.items.items n) c.next_serial.ensures ∙ c.in_ok-items.ensures.value
