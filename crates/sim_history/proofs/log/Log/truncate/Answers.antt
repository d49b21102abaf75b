use Rattle.std.proofs.Common.{◌≡◌, ◌-◌, ◌*◌, ◌/◌, ◌%◌, ◌<◌, ◌++◌, length, take, arith, sym, ap, subst, ℕ, ◌∙◌}
use Rattle.std.proofs.Math.Nat.{mod-lt}
use Rattle.std.proofs.lemmas.List.{length-take, length-take-le}
use Rattle.sim_history.specs.Segments.{entries_of, joined, AreSegments}
use Rattle.sim_history.proofs.Joined.{multiple, first_last, cut_part, length-at, AreFull-take}
use Rattle.sim_history.proofs.log.Log.truncate.Goals as goal

pub slice_bounds-extend_from_slice-end : goal.slice_bounds-extend_from_slice-end
slice_bounds-extend_from_slice-end c =
    let i = c.self.invariant in
    let k = c.interval-interval.result in
    let is = c.interval-interval.ensures.value ∙ ap (λ l. l.scenario.interval) (sym c.self.view_is) in
    let some : 0 < k = (let low = i.0.interval.0 in omega (arith, low, is)) in
    let full : AreSegments k c.self.inside.segments.items = subst (λ (n : ℕ). AreSegments n c.self.inside.segments.items) (sym is) i.1 in
    let same = length-at entries_of k c.self.inside.segments.items (c.args.count / k) c.get.result.now full c.get.ensures in
    sym (length-take-le _ c.as_slice-segment.result.now (omega (arith, same, ap length c.as_slice-segment.ensures.value, mod-lt c.args.count some)))

pub returns-else-whole-len-clause-entries : goal.returns-else-whole-len-clause-entries
returns-else-whole-len-clause-entries c =
    let i = c.self.invariant in
    let k = c.interval-interval.result in
    let is = c.interval-interval.ensures.value ∙ ap (λ l. l.scenario.interval) (sym c.self.view_is) in
    let full : AreSegments k c.self.inside.segments.items = subst (λ (n : ℕ). AreSegments n c.self.inside.segments.items) (sym is) i.1 in
    let ss = c.self.inside.segments.items in
    let len = c.len-else-whole-len.ensures in
    let low = multiple (length ss) c.args.count k (omega (arith, c.len.ensures, c.if-whole-len.false)) in
    ap (λ xs. joined ss ++ xs) c.truncate-else-whole-len.ensures.items
    ∙ ap (λ m. joined ss ++ take (c.args.count - m * k) c.self.inside.last.items) len
    ∙ sym (first_last entries_of k ss c.self.inside.last.items c.args.count full low)
    ∙ ap (λ l. take c.args.count l.entries) c.self.view_is

pub returns-in-Ok-clause-entries : goal.returns-in-Ok-clause-entries
returns-in-Ok-clause-entries c =
    let i = c.self.invariant in
    let k = c.interval-interval.result in
    let is = c.interval-interval.ensures.value ∙ ap (λ l. l.scenario.interval) (sym c.self.view_is) in
    let some : 0 < k = (let low = i.0.interval.0 in omega (arith, low, is)) in
    let full : AreSegments k c.self.inside.segments.items = subst (λ (n : ℕ). AreSegments n c.self.inside.segments.items) (sym is) i.1 in
    let ss = c.self.inside.segments.items in
    let ext = c.in-Ok.ensures.items ∙ ap (λ xs. xs ++ take (c.args.count % k) c.as_slice-segment.result.now) c.clear.ensures.items in
    rw (c.truncate.ensures, ext)
    (ap (λ xs. joined (take (c.args.count / k) ss) ++ take (c.args.count % k) xs) c.as_slice-segment.ensures.value
    ∙ cut_part entries_of k ss c.self.inside.last.items c.args.count c.get.result.now some full c.get.ensures
    ∙ ap (λ l. take c.args.count l.entries) c.self.view_is)

pub invariant_of-self : goal.invariant_of-self
invariant_of-self c =
    let i = c.self.invariant in
    let k = c.interval-interval.result in
    let is = c.interval-interval.ensures.value ∙ ap (λ l. l.scenario.interval) (sym c.self.view_is) in
    let some : 0 < k = (let low = i.0.interval.0 in omega (arith, low, is)) in
    let full : AreSegments k c.self.inside.segments.items = subst (λ (n : ℕ). AreSegments n c.self.inside.segments.items) (sym is) i.1 in
    let ss = c.self.inside.segments.items in
    let ext = c.in-Ok.ensures.items ∙ ap (λ xs. xs ++ take (c.args.count % k) c.as_slice-segment.result.now) c.clear.ensures.items in
    let whole =
    ap (λ xs. joined (take (c.args.count / k) ss) ++ take (c.args.count % k) xs) c.as_slice-segment.ensures.value
    ∙ cut_part entries_of k ss c.self.inside.last.items c.args.count c.get.result.now some full c.get.ensures in
    let cut : joined c.truncate.new.self.items ++ c.extend_from_slice.new.self.items ≡ take c.args.count (joined ss ++ c.self.inside.last.items) = rw (c.truncate.ensures, ext) whole in
    let less = mod-lt c.args.count some in
    let len = ap length ext ∙ length-take (c.args.count % k) c.as_slice-segment.result.now in
    let grown = c.extend_from_slice.ensures.capacity in
    let kept = c.clear.ensures.capacity in
    let room = i.3 in
    let few = i.4 in (
      i.0,
      rw c.truncate.ensures (AreFull-take entries_of _ (c.args.count / k) ss i.1),
      omega (arith, len, less, is),
      omega (arith, grown, kept, room),
      omega (arith, ap length cut, length-take c.args.count (joined ss ++ c.self.inside.last.items), few),
    )
