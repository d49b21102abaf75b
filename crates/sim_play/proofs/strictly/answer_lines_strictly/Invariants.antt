use Rattle.std.proofs.Common.{◌≡◌}
use Rattle.std.specs.Io.KnownBytes.{prepend_known}
use Rattle.sim_world.specs.Events.{rules}
use Rattle.sim_lines.specs.Waiting.{CountsReads, budget}
use Rattle.sim_cli.specs.Turns.{course_of}
use Rattle.sim_play.proofs.StrictRuns.{StrictSo}
use Rattle.sim_play.proofs.strictly.answer_lines_strictly.Given as goal

-- the scenario stays, and the lines so far were answered and are not at fault
abbrev pub invariant-loop-outlet : goal.invariant-loop-outlet
invariant-loop-outlet g l = record {
  scenario : l.book.scenario ≡ l.fn.book.scenario;
  counts : CountsReads l.fn.ahead l.ahead (g.R.Read.remaining l.fn.reader) (g.R.Read.remaining l.reader);
  so : StrictSo (rules g.N.Node.laws g.N.Node.PROBES l.fn.book.scenario) l.names (prepend_known l.fn.ahead.bytes (g.R.Read.remaining l.fn.reader)) (prepend_known l.ahead.bytes (g.R.Read.remaining l.reader))
      (g.W.Write.contents l.fn.writer) (g.W.Write.contents l.writer) l.outlet (course_of l.fn.book) (course_of l.book) l.number;
}

-- fewer bytes can come
abbrev pub decreases-loop-outlet : goal.decreases-loop-outlet
decreases-loop-outlet g l = budget l.ahead
