use Rattle.std.proofs.Common.{◌≡◌, ◌<◌, ℕ, List, Some, length}
use Rattle.std.specs.Io.KnownBytes.{prepend_known}
use Rattle.sim_world.specs.Events.{rules}
use Rattle.sim_lines.specs.Waiting.{budget}
use Rattle.sim_cli.specs.Turns.{course_of}
use Rattle.sim_cli.specs.Following.{Followed}
use Rattle.sim_cli.proofs.following.follow.Given as goal

-- the scenario and a branch stay, and the lines so far were followed
abbrev pub invariant-loop-book : goal.invariant-loop-book
invariant-loop-book g l = record {
  scenario : l.book.scenario ≡ l.fn.book.scenario;
  some : 0 < length l.fn.book.kept → 0 < length l.book.kept;
  so : (script : List ℕ) → prepend_known l.fn.ahead.bytes (g.R.Read.remaining l.fn.reader) ≡ Some script →
      Followed (rules g.N.Node.laws g.N.Node.PROBES l.fn.book.scenario) l.names l.strict (course_of l.fn.book) script (course_of l.book) (prepend_known l.ahead.bytes (g.R.Read.remaining l.reader)) l.number;
}

-- fewer bytes can come
abbrev pub decreases-loop-book : goal.decreases-loop-book
decreases-loop-book g l = budget l.ahead
