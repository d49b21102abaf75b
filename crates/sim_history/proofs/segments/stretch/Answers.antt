use Rattle.std.proofs.Common.{◌≡◌, ℕ, ◌-◌, ◌*◌, ◌/◌, ◌%◌, ◌++◌, length, take, drop, arith, sym, ap, ◌∙◌}
use Rattle.std.proofs.Math.Nat.{mod-lt}
use Rattle.sim_history.specs.Segments.{entries_of, joined, stretch}
use Rattle.sim_history.proofs.Joined.{quotient, multiple, length-all, length-at, within_part, within_last, stretch_last}
use Rattle.sim_history.proofs.segments.stretch.Goals as goal

pub slice_bounds-result-end : goal.slice_bounds-result-end
slice_bounds-result-end c =
    let same = length-at entries_of c.args.interval c.args.segments.now.items (c.args.from / c.args.interval) c.get.result.now c.requires.full c.get.ensures in
    let is = ap length c.as_slice-segment.ensures.value in
    omega (arith, same, is, c.min.ensures)

pub slice_bounds-result-end-else-whole-len : goal.slice_bounds-result-end-else-whole-len
slice_bounds-result-end-else-whole-len c =
    let ss = c.args.segments.now.items in
    let all = length-all entries_of c.args.interval ss c.args.last.now c.requires.full in
    let within = c.requires.within in
    let is = ap (λ n. n * c.args.interval) c.len-else-whole-len.ensures in
    omega (arith, all, within, is)

pub returns-then-whole-len : goal.returns-then-whole-len
returns-then-whole-len c =
    let ss = c.args.segments.now.items in
    let k = c.args.interval in
    let from = c.args.from in
    let n : ℕ = c.min.result - from % k in
    let lt = mod-lt from c.requires.some in
    let is : n ≡ stretch k from c.args.to = omega (arith, lt, c.min.ensures, c.requires.order) in
    ap (λ xs. take n (drop (from % k) xs)) c.as_slice-segment.ensures.value
    ∙ sym (within_part entries_of k ss c.args.last.now (from / k) (from % k) n c.get.result.now c.requires.full c.get.ensures (omega (arith, lt, is)))
    ∙ ap (λ m. take n (drop m (joined ss ++ c.args.last.now))) (quotient from k)
    ∙ ap (λ m. take m (drop from (joined ss ++ c.args.last.now))) is

pub returns-else-whole-len : goal.returns-else-whole-len
returns-else-whole-len c =
    let ss = c.args.segments.now.items in
    let k = c.args.interval in
    let from = c.args.from in
    let low = multiple (length ss) from k (omega (arith, c.len.ensures, c.if-whole-len.false)) in
    let all = length-all entries_of k ss c.args.last.now c.requires.full in
    let within = c.requires.within in
    let order = c.requires.order in
    let is = ap (λ n. n * k) c.len-else-whole-len.ensures in
    let same = stretch_last (length ss) k (length c.args.last.now) from c.args.to low order (omega (arith, all, within)) c.requires.short in
    let count : c.args.to - c.len-else-whole-len.result * k - (from - c.len-else-whole-len.result * k) ≡ stretch k from c.args.to = omega (arith, low, order, is, same) in
    ap (λ m. take m (drop (from - c.len-else-whole-len.result * k) c.args.last.now)) count
    ∙ ap (λ m. take (stretch k from c.args.to) (drop (from - m) c.args.last.now)) is
    ∙ ap (take (stretch k from c.args.to)) (sym (within_last entries_of k ss c.args.last.now from c.requires.full low))
