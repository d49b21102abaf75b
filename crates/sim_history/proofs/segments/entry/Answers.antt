use Rattle.std.proofs.Common.{◌-◌, ◌*◌, ◌/◌, ◌%◌, length, arith, sym, ap, ◌∙◌}
use Rattle.std.proofs.Math.Nat.{mod-lt}
use Rattle.std.specs.Prelude.{Some, slice_get}
use Rattle.std.proofs.lemmas.Option.{slice_get-get_or}
use Rattle.sim_history.specs.Segments.{entries_of}
use Rattle.sim_history.proofs.Joined.{quotient, multiple, length-all, length-at, at_part, at_last}
use Rattle.sim_history.proofs.segments.entry.Goals as goal

pub bounds-segment-i : goal.bounds-segment-i
bounds-segment-i c =
    let same = length-at entries_of c.args.interval c.args.segments.now.items (c.args.i / c.args.interval) c.get.result.now c.requires.full c.get.ensures in
    omega (arith, same, ap length c.as_slice-segment.ensures.value, mod-lt c.args.i c.requires.some)

pub bounds-last-i : goal.bounds-last-i
bounds-last-i c =
    let ss = c.args.segments.now.items in
    omega (
      arith,
      ap (λ n. n * c.args.interval) c.len-else-whole-len.ensures,
      length-all entries_of c.args.interval ss c.args.last.now c.requires.full,
      c.requires.inside,
      multiple (length ss) c.args.i c.args.interval (omega (arith, c.len.ensures, c.if-whole-len.false)),
    )

pub returns-then-whole-len : goal.returns-then-whole-len
returns-then-whole-len c =
    let k = c.args.interval in
    let i = c.args.i in
    let ss = c.args.segments.now.items in
    let lt = mod-lt i c.requires.some in
    let same = length-at entries_of k ss (i / k) c.get.result.now c.requires.full c.get.ensures in
    ap (slice_get _) (sym (quotient i k))
    ∙ at_part entries_of k ss c.args.last.now (i / k) (i % k) c.get.result.now c.requires.full c.get.ensures lt
    ∙ ap (λ xs. slice_get xs (i % k)) (sym c.as_slice-segment.ensures.value)
    ∙ slice_get-get_or c.as_slice-segment.result.now (i % k) c.index-segment-i.result (omega (arith, same, ap length c.as_slice-segment.ensures.value, lt))
    ∙ ap (λ e. Some e) (sym c.index-segment-i.is)

pub returns-else-whole-len : goal.returns-else-whole-len
returns-else-whole-len c =
    let k = c.args.interval in
    let ss = c.args.segments.now.items in
    let low = multiple (length ss) c.args.i k (omega (arith, c.len.ensures, c.if-whole-len.false)) in
    let all = length-all entries_of k ss c.args.last.now c.requires.full in
    let inside = c.requires.inside in
    at_last entries_of k ss c.args.last.now c.args.i c.requires.full low
    ∙ ap (λ n. slice_get c.args.last.now (c.args.i - n * k)) (sym c.len-else-whole-len.ensures)
    ∙ slice_get-get_or c.args.last.now (c.args.i - c.len-else-whole-len.result * k) c.index-last-i.result (omega (arith, low, all, inside, ap (λ n. n * k) c.len-else-whole-len.ensures))
    ∙ ap (λ e. Some e) (sym c.index-last-i.is)
