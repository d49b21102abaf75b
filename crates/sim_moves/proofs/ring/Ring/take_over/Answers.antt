use Rattle.std.proofs.Common.{◌≡◌, [], ap, ◌∙◌, arith}
use Rattle.sim_world.specs.Records.{EventRecord as Kept}
use Rattle.circular_buffer.specs.Buffer.{Buffer, buffer}
use Rattle.sim_moves.proofs.ring.Ring.take_over.Goals as goal
use Rattle.sim_moves.proofs.ring.Ring.take_over.Goals.{then-self-spent, else-self-spent}

pub returns : goal.returns
returns g c =
    let K = Kept g.row.N.Denot g.row.N-Msg.Denot g.row.N-Undo.Denot in
    let whole = ap (λ (b : Buffer K). b.capacity) c.self.view_is in
    let same : c.if-self-spent.self.capacity ≡ c.args.self.now.capacity = elim c.if-self-spent.branch [
      | then-self-spent w ↦ omega (arith, whole, ap (λ (b : Buffer K). b.capacity) w.self-is)
      | else-self-spent w ↦ omega (arith, whole, ap (λ (b : Buffer K). b.capacity) w.self-is)
    ] in
    c.clear.ensures ∙ ap (λ n. buffer {X = K} [] n) same
