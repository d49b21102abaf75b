use Rattle.std.proofs.Common.{◌<◌, [], length, ap, ◌∙◌, arith}
use Rattle.circular_buffer.specs.Buffer.{buffer}
use Rattle.sim_moves.specs.Circle.{around}
use Rattle.sim_moves.proofs.Circling.{none-kept}
use Rattle.sim_moves.proofs.ring.Ring.clear.Goals as goal

pub invariant_of-self : goal.invariant_of-self
invariant_of-self g c =
    let some : 0 < length c.self.inside.slots.items = omega (arith, c.self.invariant.0) in
    (some, some, c.self.invariant.2, c.self.invariant.3, λ _. omega arith)

pub returns : goal.returns
returns g c =
    let i = c.self.inside in
    ap (λ xs. buffer xs i.capacity) (none-kept (around 0 i.slots.items)) ∙ ap (λ b. buffer [] b.capacity) c.self.view_is
