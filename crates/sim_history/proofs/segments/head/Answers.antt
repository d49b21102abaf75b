use Rattle.std.proofs.Common.{◌-◌, ◌*◌, ◌/◌, ◌%◌, ◌++◌, length, take, arith, sym, ap, ◌∙◌}
use Rattle.std.proofs.Math.Nat.{mod-lt}
use Rattle.std.proofs.Math.Seq.{take-length}
use Rattle.std.proofs.lemmas.List.{length-take-le}
use Rattle.sim_history.specs.Segments.{entries_of, joined}
use Rattle.sim_history.proofs.Joined.{multiple, length-all, length-at, first_last, cut_part}
use Rattle.sim_history.proofs.segments.head.Goals as goal

pub slice_bounds-result-end : goal.slice_bounds-result-end
slice_bounds-result-end c =
    let same = length-at entries_of c.args.interval c.args.segments.now.items (c.args.count / c.args.interval) c.get.result.now c.requires.full c.get.ensures in
    let is = ap length c.as_slice-segment.ensures.value in
    sym (length-take-le _ c.as_slice-segment.result.now (omega (arith, same, is, mod-lt c.args.count c.requires.some)))

pub returns-then-whole-len-clause-entries : goal.returns-then-whole-len-clause-entries
returns-then-whole-len-clause-entries c =
    let ss = c.args.segments.now.items in
    let k = c.args.interval in
    ap (λ xs. joined (take (c.args.count / k) ss) ++ take (c.args.count % k) xs) c.as_slice-segment.ensures.value
    ∙ cut_part entries_of k ss c.args.last.now c.args.count c.get.result.now c.requires.some c.requires.full c.get.ensures

pub slice_bounds-result-length : goal.slice_bounds-result-length
slice_bounds-result-length c =
    let ss = c.args.segments.now.items in
    let low = multiple (length ss) c.args.count c.args.interval (omega (arith, c.len.ensures, c.if-whole-len.false)) in
    let all = length-all entries_of c.args.interval ss c.args.last.now c.requires.full in
    let within = c.requires.within in
    let is = ap (λ n. n * c.args.interval) c.len-else-whole-len-2.ensures in
    sym (length-take-le _ c.args.last.now (omega (arith, low, all, within, is)))

pub returns-else-whole-len-clause-entries : goal.returns-else-whole-len-clause-entries
returns-else-whole-len-clause-entries c =
    let ss = c.args.segments.now.items in
    let k = c.args.interval in
    let low = multiple (length ss) c.args.count k (omega (arith, c.len.ensures, c.if-whole-len.false)) in
    ap (λ n. joined (take n ss) ++ take (c.args.count - c.len-else-whole-len-2.result * k) c.args.last.now) c.len-else-whole-len.ensures
    ∙ ap (λ xs. joined xs ++ take (c.args.count - c.len-else-whole-len-2.result * k) c.args.last.now) (take-length ss)
    ∙ ap (λ n. joined ss ++ take (c.args.count - n * k) c.args.last.now) c.len-else-whole-len-2.ensures
    ∙ sym (first_last entries_of k ss c.args.last.now c.args.count c.requires.full low)
