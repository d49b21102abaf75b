use Rattle.std.proofs.Common.{◌≡◌, ◌++◌, ◌∷◌, [], rules, ◌∙◌, is_err, true, false, arith}
use Rattle.sim_lines.proofs.Heads.{at_byte, at_line_end, at_marker, at_last_marker, at_last_line, at_failure, at_most, moved, on_ok}
use Rattle.sim_lines.proofs.Spending.{byte_spent, used_up}
use Rattle.sim_lines.specs.Cut.{is_marker}
use Rattle.std.specs.Str.Lines.{strip_carriage_return}
use Rattle.sim_lines.proofs.Counting.{counts_append}
use Rattle.sim_lines.proofs.head.read_head.Goals as goal
use Rattle.sim_lines.proofs.head.read_head.Goals.{then-byte-eq10+else-is_marker_line+else-is_err, else-byte-eq10+else-is_err-2}

pub returns-then-is_marker_line-clause-takes : goal.returns-then-is_marker_line-clause-takes
returns-then-is_marker_line-clause-takes g c =
    let m : is_marker (strip_carriage_return c.loop.lines.1) ≡ true = search rules in
    rw c.into_lines.ensures (at_marker _ _ _ c.loop.lines.0 c.loop.lines.1 c.loop.counter c.loop.invariant.head c.loop-test.true (rw c.if-byte-eq10.true at c.in-Byte.ensures.gives) m)

pub returns-then-is_marker_line-2-clause-takes : goal.returns-then-is_marker_line-2-clause-takes
returns-then-is_marker_line-2-clause-takes g c =
    let m : is_marker c.loop.lines.1 ≡ true = search rules in
    rw c.into_lines-then-is_marker_line-2.ensures (at_last_marker _ _ _ c.loop.lines.0 c.loop.lines.1 c.loop.counter c.loop.invariant.head c.loop-test.true c.in-End.ensures.gives.0 c.in-End.ensures.gives.1 m)

pub returns-else-is_marker_line-2-clause-takes : goal.returns-else-is_marker_line-2-clause-takes
returns-else-is_marker_line-2-clause-takes g c =
    let m : is_marker c.loop.lines.1 ≡ false = search rules in
    at_last_line _ _ _ c.loop.lines.0 c.loop.lines.1 _ c.loop.counter c.loop.invariant.head c.loop-test.true c.in-End.ensures.gives.0 c.in-End.ensures.gives.1 m c.into_text.ensures

pub returns-in-Failed-clause-takes : goal.returns-in-Failed-clause-takes
returns-in-Failed-clause-takes g c = at_failure _ _ _ c.loop.lines.0 c.loop.lines.1 c.loop.counter c.loop.invariant.head c.loop-test.true c.in-Failed.ensures.gives

pub returns-in-Failed-clause-spends : goal.returns-in-Failed-clause-spends
returns-in-Failed-clause-spends g c = used_up _ _ _ c.loop.invariant.spent c.in-Failed.ensures.spends

pub loop-preserved : goal.loop-preserved
loop-preserved g c = record {
  head = elim c.if-byte-eq10.branch [
    | then-byte-eq10+else-is_marker_line+else-is_err w ↦
        let m : is_marker (strip_carriage_return c.loop.lines.1) ≡ false = search rules in
        let fine : is_err w.end_line.result ≡ false = search rules in
        moved _ _ c.if-byte-eq10.lines (c.loop.lines.0 ++ (c.loop.lines.1 ++ 10 ∷ []), []) _ (w.lines-is ∙ on_ok w.end_line.result _ w.end_line.ensures fine)
        (at_line_end _ _ _ c.loop.lines.0 c.loop.lines.1 c.loop.counter c.loop.invariant.head (rw w.if-byte-eq10.true at c.in-Byte.ensures.gives) m)
    | else-byte-eq10+else-is_err-2 w ↦
        let fine : is_err w.push.result ≡ false = search rules in
        moved _ _ c.if-byte-eq10.lines (c.loop.lines.0, c.loop.lines.1 ++ c.in-Byte.byte ∷ []) _ (w.lines-is ∙ on_ok w.push.result _ w.push.ensures fine)
        (at_byte _ _ _ c.loop.lines.0 c.loop.lines.1 c.loop.counter c.in-Byte.byte c.loop.invariant.head c.in-Byte.ensures.gives w.if-byte-eq10.false)
  ];
  spent = byte_spent _ _ _ _ c.loop.invariant.spent c.in-Byte.ensures.spends;
  counts = counts_append _ _ _ _ _ _ c.loop.invariant.counts c.in-Byte.ensures.counts;
  few = λ _. c.in-Byte.ensures.few;
}

pub returns-clause-takes : goal.returns-clause-takes
returns-clause-takes g c = at_most _ _ c.loop.lines.0 c.loop.lines.1 _ c.loop.counter c.loop.invariant.head (omega arith) c.loop-test.false c.into_text-2.ensures

pub returns-clause-few : goal.returns-clause-few
returns-clause-few g c = c.loop.invariant.few (omega (arith, c.loop-test.false))

pub returns-then-is_marker_line-clause-counts : goal.returns-then-is_marker_line-clause-counts
returns-then-is_marker_line-clause-counts g c = counts_append _ _ _ _ _ _ c.loop.invariant.counts c.in-Byte.ensures.counts

pub returns-then-is_err-clause-counts : goal.returns-then-is_err-clause-counts
returns-then-is_err-clause-counts g c = counts_append _ _ _ _ _ _ c.loop.invariant.counts c.in-Byte.ensures.counts

pub returns-then-is_err-2-clause-counts : goal.returns-then-is_err-2-clause-counts
returns-then-is_err-2-clause-counts g c = counts_append _ _ _ _ _ _ c.loop.invariant.counts c.in-Byte.ensures.counts

pub returns-then-is_marker_line-2-clause-counts : goal.returns-then-is_marker_line-2-clause-counts
returns-then-is_marker_line-2-clause-counts g c = counts_append _ _ _ _ _ _ c.loop.invariant.counts c.in-End.ensures.counts

pub returns-else-is_marker_line-2-clause-counts : goal.returns-else-is_marker_line-2-clause-counts
returns-else-is_marker_line-2-clause-counts g c = counts_append _ _ _ _ _ _ c.loop.invariant.counts c.in-End.ensures.counts

pub returns-in-Failed-clause-counts : goal.returns-in-Failed-clause-counts
returns-in-Failed-clause-counts g c = counts_append _ _ _ _ _ _ c.loop.invariant.counts c.in-Failed.ensures.counts
