use Rattle.std.proofs.Common.{◌<◌, ◌≤◌, length}
use Rattle.std.specs.Io.KnownBytes.{prepend_known}
use Rattle.sim_lines.specs.Waiting.{CountsReads}
use Rattle.sim_lines.proofs.Heads.{Head}
use Rattle.sim_lines.proofs.Spending.{Spent}
use Rattle.sim_lines.proofs.head.read_head.Given as goal

-- what was taken is lines without a marker, and the front of a line
abbrev pub invariant-loop : goal.invariant-loop
invariant-loop g l = record {
  head : Head (prepend_known l.fn.ahead.bytes (g.R.Read.remaining l.fn.reader)) (prepend_known l.ahead.bytes (g.R.Read.remaining l.reader)) l.lines.0 l.lines.1 l.counter;
  spent : Spent l.fn.ahead l.ahead;
  counts : CountsReads l.fn.ahead l.ahead (g.R.Read.remaining l.fn.reader) (g.R.Read.remaining l.reader);
  few : 0 < l.counter → length l.ahead.bytes ≤ 4096;
}
