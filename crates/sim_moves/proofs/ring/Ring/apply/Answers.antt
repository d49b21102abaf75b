use Rattle.std.proofs.Common.{ℕ, ◌+◌, ◌<◌, ◌≤◌, ◌∷◌, [], ◌++◌, length, ap, ◌∙◌, ⊎_elim, arith, length-set}
use Rattle.std.proofs.lemmas.Bool.{cases_lt}
use Rattle.circular_buffer.specs.Buffer.{keep_last}
use Rattle.sim_moves.specs.Circle.{around}
use Rattle.sim_moves.proofs.Circling.{filled, length-around}
use Rattle.sim_moves.proofs.ring.Ring.apply.Goals as goal

pub invariant_of-self : goal.invariant_of-self
invariant_of-self g c =
    let i = c.self.inside in
    let same = length-set i.slots.items i.free c.apply_over.new.undo in (
      omega (arith, same, c.self.invariant.0),
      omega (arith, same, c.self.invariant.1),
      omega (arith, same, c.self.invariant.2),
      c.self.invariant.3,
      λ small. c.self.invariant.4 (omega (arith, same, small)),
    )

pub returns-in_err-after-clause-capacity : goal.returns-in_err-after-clause-capacity
returns-in_err-after-clause-capacity g c = ap (λ b. b.capacity) c.self.view_is

pub invariant_of-self-2 : goal.invariant_of-self-2
invariant_of-self-2 g c =
    let i = c.self.inside in
    let t = c.slot_after-self-inside.ensures in
    let now : ℕ = length c.slot_after-self-inside.new.slots.items in
    let same = length-set i.slots.items i.free c.apply_over.new.undo in
    let more : length i.slots.items ≤ now = omega (arith, same, t.more) in
    let few = c.self.invariant.1 in
    let made : now ≤ i.capacity → i.len + 1 ≤ c.slot_after-self-inside.result = λ small.
    let behind = c.self.invariant.4 (omega (arith, more, small)) in
    omega (arith, behind, t.growing small) in (
      t.inside,
      ⊎_elim
          (λ (small : now < i.capacity + 1). omega (arith, made (omega (arith, small)), t.inside))
          (λ (whole : i.capacity + 1 ≤ now). omega (arith, whole))
          (cases_lt now (i.capacity + 1)),
      t.most,
      t.room,
      λ small. omega (arith, made small),
    )

pub returns-clause-kept : goal.returns-clause-kept
returns-clause-kept g c =
    let i = c.self.inside in
    let u = c.apply_over.new.undo in
    let v = c.in_ok-after.ensures in
    let t = c.slot_after-self-inside.ensures in
    let same = length-set i.slots.items i.free u in
    let slots = c.slot_after-self-inside.new.slots.items in
    let news = around c.slot_after-self-inside.result slots in
    let inside : c.slot_after-self-inside.result ≤ length slots = omega (arith, t.inside) in
    let longer : length i.slots.items ≤ length news = omega (arith, same, t.more, length-around slots c.slot_after-self-inside.result inside) in
    record {
      undo = u;
      kept = filled i.slots.items news i.free i.len c.min-self-inside.result i.capacity u u c.self.invariant.0 c.self.invariant.1
          c.self.invariant.2 longer (omega arith) (rw (same) at t.turned)
          ∙ ap (λ b. keep_last b.capacity (b.items ++ u ∷ [])) c.self.view_is;
      answers = v.answers;
      leads = v.leads;
      acted = v.acted;
    }

pub returns-clause-capacity : goal.returns-clause-capacity
returns-clause-capacity g c = ap (λ b. b.capacity) c.self.view_is
