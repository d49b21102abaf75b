use Rattle.std.proofs.Common.{length, refl, ◌∙◌, sym, subst, arith}
use Rattle.sim_disk.specs.Change.{disk_in}
use Rattle.sim_disk.specs.Spans.{AreSpans}
use Rattle.sim_disk.proofs.Spans.{IsBehind, on_err, spans_still, disks_still, spans_pushed, disks_pushed}
use Rattle.sim_disk.proofs.packed.PackedDisks.push.Goals as goal

behind : (c : goal.In_ok-push) → IsBehind (length c.self.inside.bytes.items) (length c.self.inside.writes.items) (disk_in c.disk.inside.content)
    (record { from = c.len-from.result; to = c.in_ok-to.to; first = c.len-first.result; last = c.in_ok-last.last; asked = c.disk.inside.content.asked })
behind c = record { from = omega arith; to = omega arith; first = omega arith; last = omega arith; asked = refl }

pub invariant_of-self-2 : goal.invariant_of-self-2
invariant_of-self-2 c =
    rw (c.in_ok-push.ensures.items, c.in_ok-append_all.ensures.ok, c.as_slice-2.ensures.value, c.in_ok-append_bytes.ensures.ok, c.as_slice.ensures.value)
    (spans_pushed _ _ _ (disk_in c.disk.inside.content) _ (behind c) c.self.invariant c.disk.invariant)

pub returns-clause-ok : goal.returns-clause-ok
returns-clause-ok c =
    rw (
      c.in_ok-push.ensures.items,
      c.in_ok-append_all.ensures.ok,
      c.as_slice-2.ensures.value,
      c.in_ok-append_bytes.ensures.ok,
      c.as_slice.ensures.value,
      ← c.self.view_is,
      ← c.disk.view_is,
    )
    (disks_pushed _ _ _ (disk_in c.disk.inside.content) _ (behind c) c.self.invariant)

pub invariant_of-self : goal.invariant_of-self
invariant_of-self c =
    let p = c.self.inside in
    subst (λ bytes. AreSpans bytes p.writes.items p.spans.items) (sym c.in_err-append_bytes.ensures.err) c.self.invariant

pub invariant_of-self-in_err-append_all : goal.invariant_of-self-in_err-append_all
invariant_of-self-in_err-append_all c =
    let grown = c.in_err-append_all.ensures.grown in
    spans_still c.as_slice.result.now grown.0 c.in_ok-append_bytes.ensures.ok grown.1 refl c.self.invariant

pub invariant_of-self-in_err-push : goal.invariant_of-self-in_err-push
invariant_of-self-in_err-push c =
    spans_still c.as_slice.result.now c.as_slice-2.result.now c.in_ok-append_bytes.ensures.ok c.in_ok-append_all.ensures.ok
    c.in_err-push.ensures.items c.self.invariant

pub returns-in_err-append_all-clause-err : goal.returns-in_err-append_all-clause-err
returns-in_err-append_all-clause-err c =
    let grown = c.in_err-append_all.ensures.grown in
    on_err c.from_residual-in_err-append_all.result
    (disks_still c.as_slice.result.now grown.0 c.in_ok-append_bytes.ensures.ok grown.1 refl c.self.invariant ∙ c.self.view_is)

pub returns-in_err-push-clause-err : goal.returns-in_err-push-clause-err
returns-in_err-push-clause-err c =
    on_err c.from_residual-in_err-push.result
    (disks_still c.as_slice.result.now c.as_slice-2.result.now c.in_ok-append_bytes.ensures.ok c.in_ok-append_all.ensures.ok
    c.in_err-push.ensures.items c.self.invariant ∙ c.self.view_is)
