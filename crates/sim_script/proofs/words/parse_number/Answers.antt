use Rattle.std.proofs.Common.{arith, sym}
use Rattle.sim_script.proofs.Numbers.{at_start, at_digit, below_most, is_small}
use Rattle.sim_script.proofs.words.parse_number.Goals as goal

pub loop-b-init : goal.loop-b-init
loop-b-init c = at_start c.args.word.now

pub overflow_mul-value : goal.overflow_mul-value
overflow_mul-value c =
    let small = below_most c.args.word.now c.loop-b.value c.loop-b.b-index c.loop-b.invariant (omega arith) in
    omega (arith, small)

pub overflow_add-value : goal.overflow_add-value
overflow_add-value c =
    let small = below_most c.args.word.now c.loop-b.value c.loop-b.b-index c.loop-b.invariant (omega arith) in
    let range = c.if-not-is_ascii_digit.ensures.cases in
    omega (arith, small, range.0, range.1, c.from.ensures)

pub loop-b-preserved : goal.loop-b-preserved
loop-b-preserved c =
    let range = c.if-not-is_ascii_digit.ensures.cases in
    at_digit c.args.word.now c.loop-b.value c.loop-b.b-index c.from.result c.loop-b.invariant c.loop-b-test.true (sym c.if-not-is_ascii_digit.ensures.value) c.from.ensures
    (omega (arith, range.0, range.1, c.from.ensures))

pub returns-clause-small : goal.returns-clause-small
returns-clause-small c = is_small c.args.most c.args.word.now c.loop-b.value c.loop-b.b-index c.loop-b.invariant (omega arith)
