use Rattle.std.proofs.Common.{◌≡◌, ◌-◌, ◌*◌, ◌/◌, ◌%◌, ◌<◌, ◌≤◌, length, Some, sym, ap, ◌∙◌, arith, length-take}
use Rattle.std.specs.Prelude.{slice_get}
use Rattle.std.proofs.Math.Nat.{mod-lt}
use Rattle.sim_history.specs.Segments.{all_values}
use Rattle.sim_history.proofs.SharedLists.{there, length-group, length-values, group_value, last_value}
use Rattle.sim_history.proofs.shared_list.SharedList.get.Goals as goal

pub bounds-group-i : goal.bounds-group-i
bounds-group-i g c =
    let gs = c.self.inside.groups.items in
    let n = c.self.inside.groups.ok.0 in
    let lt : c.args.i / 8 < length gs = omega (arith, n, c.len.ensures, c.if-whole-len.true) in
    let at = there gs (c.args.i / 8) c.index.result.now lt c.index.ensures in
    let full = length-group gs (c.args.i / 8) c.index.result.now c.self.invariant.0 at in
    let small : c.args.i % 8 < 8 = mod-lt c.args.i (omega arith) in
    omega (arith, full, ap (λ v. length v.items) c.deref.ensures, ap length c.as_slice-group.ensures.value, small)

pub index-requires-else-whole-len : goal.index-requires-else-whole-len
index-requires-else-whole-len g c =
    let i = c.self.inside in
    let n = i.groups.ok.0 in
    let m = i.last.ok.0 in
    let seen = ap (λ s. length s.items) c.self.view_is in
    let all = length-values i.groups.items i.last.items c.self.invariant.0 in
    let within = c.self.invariant.2 in
    omega (arith, n, m, seen, all, within, c.requires, length-take i.len (all_values i.groups.items i.last.items), c.len-else-whole-len.ensures)

pub returns-then-whole-len : goal.returns-then-whole-len
returns-then-whole-len g c =
    let i = c.self.inside in
    let gs = i.groups.items in
    let n = i.groups.ok.0 in
    let lt : c.args.i / 8 < length gs = omega (arith, n, c.len.ensures, c.if-whole-len.true) in
    let at = there gs (c.args.i / 8) c.index.result.now lt c.index.ensures in
    let full = length-group gs (c.args.i / 8) c.index.result.now c.self.invariant.0 at in
    let seen = ap (λ s. length s.items) c.self.view_is in
    let inside : c.args.i < i.len = omega (arith, seen, c.requires, length-take i.len (all_values gs i.last.items)) in
    let slice = c.as_slice-group.ensures.value ∙ ap (λ v. v.items) c.deref.ensures in
    let small : c.args.i % 8 < 8 = mod-lt c.args.i (omega arith) in
    let below : c.args.i % 8 < length c.as_slice-group.result.now = omega (arith, full, ap length slice, small) in
    let is = ap (λ xs. slice_get xs (c.args.i % 8)) (sym slice) ∙ there c.as_slice-group.result.now (c.args.i % 8) c.index-group-i.result below c.index-group-i.is in
    ap (λ s. slice_get s.items c.args.i) (sym c.self.view_is)
    ∙ group_value gs i.last.items i.len c.args.i c.index.result.now c.index-group-i.result c.self.invariant.0 inside at is
    ∙ ap Some (sym c.deref-then-whole-len.ensures)

pub returns-else-whole-len : goal.returns-else-whole-len
returns-else-whole-len g c =
    let i = c.self.inside in
    let gs = i.groups.items in
    let n = i.groups.ok.0 in
    let len : c.len-else-whole-len.result ≡ length gs = omega (arith, n, c.len-else-whole-len.ensures) in
    let low : length gs * 8 ≤ c.args.i = omega (arith, n, c.len.ensures, c.if-whole-len.false) in
    let seen = ap (λ s. length s.items) c.self.view_is in
    let all = length-values gs i.last.items c.self.invariant.0 in
    let within = c.self.invariant.2 in
    let taken = length-take i.len (all_values gs i.last.items) in
    let inside : c.args.i < i.len = omega (arith, seen, c.requires, taken) in
    let below : c.args.i - c.len-else-whole-len.result * 8 < length i.last.items = omega (arith, inside, all, within, len, low) in
    let is = ap (λ m. slice_get i.last.items (c.args.i - m * 8)) (sym len)
    ∙ there i.last.items (c.args.i - c.len-else-whole-len.result * 8) c.index-else-whole-len.result.now below c.index-else-whole-len.ensures in
    ap (λ s. slice_get s.items c.args.i) (sym c.self.view_is)
    ∙ last_value gs i.last.items i.len c.args.i c.index-else-whole-len.result.now c.self.invariant.0 inside low is
    ∙ ap Some (sym c.deref-else-whole-len.ensures)
