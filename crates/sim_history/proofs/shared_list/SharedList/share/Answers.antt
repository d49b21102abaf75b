use Rattle.std.proofs.Common.{◌≡◌, ◌+◌, ◌-◌, ◌*◌, ◌/◌, ◌%◌, ◌≤◌, length, take, map, min, sym, ap, ◌∙◌, arith, length-take}
use Rattle.std.specs.Arc.{arc_value}
use Rattle.std.proofs.lemmas.List.{take-map, take-take, length-map}
use Rattle.sim_history.specs.Segments.{values_of, all_values}
use Rattle.sim_history.proofs.Joined.{AreFull-take}
use Rattle.sim_history.proofs.SharedLists.{length-values, full-same, values-same, first_values}
use Rattle.sim_history.proofs.shared_list.SharedList.share.Given.{Over}
use Rattle.sim_history.proofs.shared_list.SharedList.share.Goals as goal

pub overflow_mul-len : goal.overflow_mul-len
overflow_mul-len g c =
    let i = c.self.inside in
    let n = i.groups.ok.0 in
    let few = c.self.invariant.4 in
    omega (arith, n, c.len-2.ensures, few, length-values i.groups.items i.last.items c.self.invariant.0)

pub shared-requires-2 : goal.shared-requires-2
shared-requires-2 g c =
    let i = c.self.inside in
    let n = i.groups.ok.0 in
    let within = c.self.invariant.2 in
    let seen = ap (λ s. length s.items) c.self.view_is in
    omega (
      arith,
      n,
      within,
      seen,
      c.requires,
      c.len-2.ensures,
      c.saturating_sub-rest.ensures,
      ap length c.as_slice-2.ensures.value,
      length-take i.len (all_values i.groups.items i.last.items),
      length-values i.groups.items i.last.items c.self.invariant.0,
    )

-- what is shared, as a part of what there is
record IsShared (g : Over) (c : goal.In_ok-last g) : Type 0 where
  groups : map arc_value c.in_ok-groups.groups.items ≡ map arc_value (take c.min-whole.result c.self.inside.groups.items)
  last : map arc_value c.in_ok-last.last.items ≡ map arc_value (take c.saturating_sub-rest.result c.self.inside.last.items)
  whole : c.min-whole.result ≡ min (c.args.count / 8 + min 1 (c.args.count % 8)) (length c.self.inside.groups.items)
  rest : c.saturating_sub-rest.result ≡ c.args.count - length c.self.inside.groups.items * 8
  low : c.args.count ≤ c.self.inside.len

is_shared : (g : Over) (c : goal.In_ok-last g) → IsShared g c
is_shared g c =
    let i = c.self.inside in
    let n = i.groups.ok.0 in
    let seen = ap (λ s. length s.items) c.self.view_is in
    record {
      groups = c.in_ok-groups.ensures ∙ take-map arc_value c.min-whole.result c.as_slice.result.now ∙ ap (λ xs. map arc_value (take c.min-whole.result xs)) c.as_slice.ensures.value;
      last = c.in_ok-last.ensures ∙ take-map arc_value c.saturating_sub-rest.result c.as_slice-2.result.now ∙ ap (λ xs. map arc_value (take c.saturating_sub-rest.result xs)) c.as_slice-2.ensures.value;
      whole = omega (arith, n, c.min-whole.ensures, c.div_ceil.ensures, c.len.ensures);
      rest = omega (arith, n, c.saturating_sub-rest.ensures, c.len-2.ensures);
      low = omega (arith, seen, c.requires, length-take i.len (all_values i.groups.items i.last.items));
    }

pub invariant_of-result : goal.invariant_of-result
invariant_of-result g c =
    let i = c.self.inside in
    let gs = i.groups.items in
    let q = c.min-whole.result in
    let r = c.saturating_sub-rest.result in
    let is = is_shared g c in
    let whole = is.whole in
    let rest = is.rest in
    let low = is.low in
    let within = c.self.invariant.2 in
    let few = c.self.invariant.4 in
    let front = AreFull-take values_of 8 q gs c.self.invariant.0 in
    let same = ap length (values-same c.in_ok-groups.groups.items (take q gs) c.in_ok-last.last.items (take r i.last.items) is.groups is.last) in
    let all = length-values gs i.last.items c.self.invariant.0 in
    let part = length-values (take q gs) (take r i.last.items) front in
    let a = length-take q gs in
    let b = length-take r i.last.items in
    let groups = ap length is.groups in
    let last = ap length is.last in
    let x = length-map c.in_ok-groups.groups.items arc_value in
    let y = length-map (take q gs) arc_value in
    let u = length-map c.in_ok-last.last.items arc_value in
    let v = length-map (take r i.last.items) arc_value in
    let short = c.self.invariant.1 in (
      full-same 8 c.in_ok-groups.groups.items (take q gs) is.groups front,
      omega (arith, last, u, v, b, short),
      omega (arith, same, part, a, b, whole, rest, low, within, all),
      (λ h. omega (arith, h, same, part, a, b, whole, rest, low, within, all, groups, x, y)),
      omega (arith, same, part, a, b, all, few),
    )

pub returns : goal.returns
returns g c =
    let i = c.self.inside in
    let gs = i.groups.items in
    let is = is_shared g c in
    ap (take c.args.count) (values-same c.in_ok-groups.groups.items (take c.min-whole.result gs) c.in_ok-last.last.items (take c.saturating_sub-rest.result i.last.items) is.groups is.last)
    ∙ first_values gs i.last.items c.args.count c.min-whole.result c.saturating_sub-rest.result c.self.invariant.0 is.whole is.rest
    ∙ sym (take-take c.args.count i.len (all_values gs i.last.items) is.low)
    ∙ ap (λ s. take c.args.count s.items) c.self.view_is
