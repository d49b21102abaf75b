use Rattle.std.specs.Io.KnownBytes.{prepend_known}
use Rattle.sim_lines.specs.Waiting.{CountsReads, budget}
use Rattle.sim_lines.proofs.Fronts.{Front}
use Rattle.sim_lines.proofs.Spending.{Spent}
use Rattle.sim_lines.proofs.lines.next_line.Given as goal

-- what was taken is the front of a line
abbrev pub invariant-loop-byte : goal.invariant-loop-byte
invariant-loop-byte g l = record {
  front : Front (prepend_known l.fn.ahead.bytes (g.R.Read.remaining l.fn.reader)) (prepend_known l.ahead.bytes (g.R.Read.remaining l.reader)) l.line.items;
  spent : Spent l.fn.ahead l.ahead;
  counts : CountsReads l.fn.ahead l.ahead (g.R.Read.remaining l.fn.reader) (g.R.Read.remaining l.reader);
}

abbrev pub decreases-loop-byte : goal.decreases-loop-byte
decreases-loop-byte g l = budget l.ahead
