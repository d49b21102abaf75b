use Rattle.std.proofs.Common.{◌≡◌, ◌<◌, ◌≤◌, ◌++◌, ◌∷◌, [], length, rules, arith, ◌∙◌, ap}
use Rattle.std.proofs.lemmas.Grind.{common_steps}
use Rattle.sim_lines.proofs.Fronts.{at_line_end, more_kept, more_same, at_last, at_failure}
use Rattle.sim_lines.proofs.Spending.{byte_spent, less_byte, less_end, used_up, nothing_spent}
use Rattle.sim_lines.proofs.Counting.{counts_append}
use Rattle.sim_lines.proofs.lines.next_line.Goals as goal
use Rattle.sim_lines.proofs.lines.next_line.Goals.{else-len-lt-KEPT-via-then-len-lt-KEPT+else-is_err, else-len-lt-KEPT-via-else-len-lt-KEPT}

pub returns-then-byte-eq10-clause-takes : goal.returns-then-byte-eq10-clause-takes
returns-then-byte-eq10-clause-takes g c =
    rw c.strip.ensures (at_line_end _ _ _ c.loop-byte.line.items c.loop-byte.invariant.front (rw c.if-byte-eq10.true at c.in-Byte.ensures.gives))

pub returns-then-byte-eq10-clause-spends : goal.returns-then-byte-eq10-clause-spends
returns-then-byte-eq10-clause-spends g c = less_byte _ _ _ _ c.loop-byte.invariant.spent c.in-Byte.ensures.spends

pub returns-then-is_err-clause-spends : goal.returns-then-is_err-clause-spends
returns-then-is_err-clause-spends g c = less_byte _ _ _ _ c.loop-byte.invariant.spent c.in-Byte.ensures.spends

pub returns-then-is_empty-clause-spends : goal.returns-then-is_empty-clause-spends
returns-then-is_empty-clause-spends g c = less_end _ _ _ c.loop-byte.invariant.spent c.in-End.ensures.spends

pub returns-else-is_empty-clause-takes : goal.returns-else-is_empty-clause-takes
returns-else-is_empty-clause-takes g c =
    let some : 0 < length c.loop-byte.line.items = grind (arith, common_steps, c.loop-byte.line.ok.0) in
    at_last _ _ _ c.loop-byte.line.items c.loop-byte.invariant.front c.in-End.ensures.gives.0 c.in-End.ensures.gives.1 some

pub returns-else-is_empty-clause-spends : goal.returns-else-is_empty-clause-spends
returns-else-is_empty-clause-spends g c = less_end _ _ _ c.loop-byte.invariant.spent c.in-End.ensures.spends

pub returns-in-Failed-clause-takes : goal.returns-in-Failed-clause-takes
returns-in-Failed-clause-takes g c = at_failure _ _ _ c.loop-byte.line.items c.loop-byte.invariant.front c.in-Failed.ensures.gives

pub returns-in-Failed-clause-spends : goal.returns-in-Failed-clause-spends
returns-in-Failed-clause-spends g c = used_up _ _ _ c.loop-byte.invariant.spent c.in-Failed.ensures.spends

pub loop-byte-preserved : goal.loop-byte-preserved
loop-byte-preserved g c = record {
  front = elim c.else-len-lt-KEPT.branch [
    | else-len-lt-KEPT-via-then-len-lt-KEPT+else-is_err w ↦
        let short : length c.loop-byte.line.items < 258 = omega (arith, c.loop-byte.line.ok.0) in
        let pushed : w.push.new.self.items ≡ c.loop-byte.line.items ++ c.in-Byte.byte ∷ [] = search rules in
        more_kept _ _ _ c.loop-byte.line.items _ c.in-Byte.byte c.loop-byte.invariant.front c.in-Byte.ensures.gives c.if-byte-eq10.false short
        (ap (λ v. v.items) w.line-is ∙ pushed)
    | else-len-lt-KEPT-via-else-len-lt-KEPT w ↦
        let full : 258 ≤ length c.loop-byte.line.items = omega (arith, c.loop-byte.line.ok.0) in
        more_same _ _ _ c.loop-byte.line.items _ c.in-Byte.byte c.loop-byte.invariant.front c.in-Byte.ensures.gives c.if-byte-eq10.false full
        (ap (λ v. v.items) w.line-is)
  ];
  spent = byte_spent _ _ _ _ c.loop-byte.invariant.spent c.in-Byte.ensures.spends;
  counts = counts_append _ _ _ _ _ _ c.loop-byte.invariant.counts c.in-Byte.ensures.counts;
}

pub loop-byte-smaller : goal.loop-byte-smaller
loop-byte-smaller g c = less_byte _ _ _ _ (nothing_spent _) c.in-Byte.ensures.spends

pub returns-then-byte-eq10-clause-counts : goal.returns-then-byte-eq10-clause-counts
returns-then-byte-eq10-clause-counts g c = counts_append _ _ _ _ _ _ c.loop-byte.invariant.counts c.in-Byte.ensures.counts

pub returns-then-is_err-clause-counts : goal.returns-then-is_err-clause-counts
returns-then-is_err-clause-counts g c = counts_append _ _ _ _ _ _ c.loop-byte.invariant.counts c.in-Byte.ensures.counts

pub returns-then-is_empty-clause-counts : goal.returns-then-is_empty-clause-counts
returns-then-is_empty-clause-counts g c = counts_append _ _ _ _ _ _ c.loop-byte.invariant.counts c.in-End.ensures.counts

pub returns-else-is_empty-clause-counts : goal.returns-else-is_empty-clause-counts
returns-else-is_empty-clause-counts g c = counts_append _ _ _ _ _ _ c.loop-byte.invariant.counts c.in-End.ensures.counts

pub returns-in-Failed-clause-counts : goal.returns-in-Failed-clause-counts
returns-in-Failed-clause-counts g c = counts_append _ _ _ _ _ _ c.loop-byte.invariant.counts c.in-Failed.ensures.counts
