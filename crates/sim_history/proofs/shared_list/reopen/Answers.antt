use Rattle.std.proofs.Common.{◌/◌, ◌%◌, ◌<◌, length, take, map, ap, ◌∙◌, arith}
use Rattle.std.specs.Arc.{arc_value}
use Rattle.std.proofs.Math.Nat.{mod-lt}
use Rattle.sim_history.specs.Segments.{values_of}
use Rattle.sim_history.proofs.Joined.{AreFull-take}
use Rattle.sim_history.proofs.SharedLists.{there, length-group, reopened}
use Rattle.sim_history.proofs.shared_list.reopen.Goals as goal

pub shared-requires : goal.shared-requires
shared-requires g c =
    let gs = c.args.groups.now.items in
    let cut = c.requires.cut in
    let lt : c.args.len / 8 < length gs = omega (arith, cut) in
    let at = there gs (c.args.len / 8) c.index.result.now lt c.index.ensures in
    let full = length-group gs (c.args.len / 8) c.index.result.now c.requires.full at in
    let small : c.args.len % 8 < 8 = mod-lt c.args.len (omega arith) in
    omega (arith, full, ap (λ v. length v.items) c.deref.ensures, ap length c.as_slice.ensures.value, small)

pub returns-clause-ok : goal.returns-clause-ok
returns-clause-ok g c =
    let gs = c.args.groups.now.items in
    let cut = c.requires.cut in
    let lt : c.args.len / 8 < length gs = omega (arith, cut) in
    let at = there gs (c.args.len / 8) c.index.result.now lt c.index.ensures in
    let is = c.in_ok-last.ensures ∙ ap (λ xs. take (c.args.len % 8) (map arc_value xs)) (c.as_slice.ensures.value ∙ ap (λ v. v.items) c.deref.ensures) in
    rw c.truncate.ensures.items (reopened gs c.args.last.now.items c.in_ok-last.field-0.items c.args.len c.index.result.now c.requires.full at is)

pub returns-clause-full : goal.returns-clause-full
returns-clause-full g c = rw c.truncate.ensures.items (AreFull-take values_of 8 (c.args.len / 8) c.args.groups.now.items c.requires.full)
