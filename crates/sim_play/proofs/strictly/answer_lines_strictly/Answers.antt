use Rattle.std.proofs.Common.{refl, ◌∙◌, ap, None, Err}
use Rattle.std.specs.Io.KnownBytes.{prepend_known}
use Rattle.sim_lines.proofs.Counting.{counts_none, counts_append}
use Rattle.sim_events.specs.Scenario.{Scenario}
use Rattle.sim_world.specs.Events.{rules}
use Rattle.sim_cli.specs.Turns.{course_of}
use Rattle.sim_play.proofs.StrictRuns.{answers_as, all_with_last, all_with_line, as_given, at_flush, at_line, at_start, ends_end, ends_failure, ends_halt, ends_last, ends_stop, ends_want}
use Rattle.sim_play.proofs.strictly.answer_lines_strictly.Goals as goal

pub loop-outlet-init : goal.loop-outlet-init
loop-outlet-init g c = record { scenario = refl; counts = counts_none _ _ _ refl; so = at_start _ _ _ _ c.new-outlet.result _ c.new-outlet.ensures }

pub returns-in-Err-clause-played : goal.returns-in-Err-clause-played
returns-in-Err-clause-played g c = λ script e.
    ends_stop _ _ script c.loop-outlet.ahead (prepend_known c.loop-outlet.ahead.bytes (g.R.Read.remaining c.loop-outlet.reader)) None _ _ _ c.loop-outlet.outlet _ _ (course_of c.loop-outlet.book) c.loop-outlet.number
    (as_given _ _ _ _ _ _ _ _ _ c.loop-outlet.number script e c.loop-outlet.invariant.so) c.in-Err.ensures

pub returns-in-Err-answer_strictly-clause-played : goal.returns-in-Err-answer_strictly-clause-played
returns-in-Err-answer_strictly-clause-played g c = λ script e.
    let so = at_flush _ _ _ _ _ _ _ c.loop-outlet.outlet c.flush_before_read.new.outlet _ _ _ (as_given _ _ _ _ _ _ _ _ _ _ script e c.loop-outlet.invariant.so) c.in-Ok.ensures in
    let kept = c.next_line.new.line.items in
    let line = c.in-Line.ensures.takes in
    let all = all_with_line _ _ script _ _ _ _ _ _ _ _ kept so line in
    let r = rules g.N.Node.laws g.N.Node.PROBES c.args.book.now.scenario in
    let q = rules g.N.Node.laws g.N.Node.PROBES c.loop-outlet.book.scenario in
    let why = c.in-Err-answer_strictly.why in
    let held = g.W.Write.contents c.flush_before_read.new.writer in
    let holds = g.W.Write.contents c.answer_strictly.new.writer in
    let here = course_of c.loop-outlet.book in
    let next = course_of c.answer_strictly.new.book in
    let answers = answers_as r q c.args.names.now (Unit {0}) here next c.as_slice-kept.result.now kept held holds c.flush_before_read.new.outlet c.answer_strictly.new.outlet (Err why)
    (ap (λ (s : Scenario). rules g.N.Node.laws g.N.Node.PROBES s) c.loop-outlet.invariant.scenario) c.as_slice-kept.ensures.value c.in-Err-answer_strictly.ensures.answers in
    ends_halt r c.args.names.now (Unit {0}) script c.next_line.new.ahead _ (g.R.Read.remaining c.next_line.new.reader) _ held holds (g.W.Write.contents c.end_at.new.writer) c.flush_before_read.new.outlet
    c.answer_strictly.new.outlet _ here next _ _ kept line.line all.0 why c.end_at.result so all.1 line.shown c.saturating_add-number.ensures answers c.end_at.ensures

pub returns-in-Ok-answer_strictly-2-clause-played : goal.returns-in-Ok-answer_strictly-2-clause-played
returns-in-Ok-answer_strictly-2-clause-played g c = λ script e.
    let so = at_flush _ _ _ _ _ _ _ c.loop-outlet.outlet c.flush_before_read.new.outlet _ _ _ (as_given _ _ _ _ _ _ _ _ _ _ script e c.loop-outlet.invariant.so) c.in-Ok.ensures in
    ends_last _ _ script c.next_line.new.ahead _ _ _ _ _ _ _ _ _ _ _ _ c.next_line.new.line.items c.finish.result so c.in-Last.ensures.takes
    (rw (c.as_slice-kept-in-Last.ensures.value, c.loop-outlet.invariant.scenario) at c.in-Ok-answer_strictly-2.ensures.answers) c.finish.ensures

pub returns-in-Err-answer_strictly-2-clause-played : goal.returns-in-Err-answer_strictly-2-clause-played
returns-in-Err-answer_strictly-2-clause-played g c = λ script e.
    let so = at_flush _ _ _ _ _ _ _ c.loop-outlet.outlet c.flush_before_read.new.outlet _ _ _ (as_given _ _ _ _ _ _ _ _ _ _ script e c.loop-outlet.invariant.so) c.in-Ok.ensures in
    let kept = c.next_line.new.line.items in
    let last = c.in-Last.ensures.takes in
    let r = rules g.N.Node.laws g.N.Node.PROBES c.args.book.now.scenario in
    let q = rules g.N.Node.laws g.N.Node.PROBES c.loop-outlet.book.scenario in
    let why = c.in-Err-answer_strictly-2.why in
    let held = g.W.Write.contents c.flush_before_read.new.writer in
    let holds = g.W.Write.contents c.answer_strictly-in-Last.new.writer in
    let here = course_of c.loop-outlet.book in
    let next = course_of c.answer_strictly-in-Last.new.book in
    let answers = answers_as r q c.args.names.now (Unit {0}) here next c.as_slice-kept-in-Last.result.now kept held holds c.flush_before_read.new.outlet c.answer_strictly-in-Last.new.outlet (Err why)
    (ap (λ (s : Scenario). rules g.N.Node.laws g.N.Node.PROBES s) c.loop-outlet.invariant.scenario) c.as_slice-kept-in-Last.ensures.value c.in-Err-answer_strictly-2.ensures.answers in
    ends_halt r c.args.names.now (Unit {0}) script c.next_line.new.ahead _ (g.R.Read.remaining c.next_line.new.reader) _ held holds (g.W.Write.contents c.end_at-in-Err-answer_strictly-2.new.writer)
    c.flush_before_read.new.outlet c.answer_strictly-in-Last.new.outlet _ here next _ _ kept last.line _ why c.end_at-in-Err-answer_strictly-2.result so
    (all_with_last _ _ script _ _ _ _ _ _ _ _ kept so last) last.shown c.saturating_add-number.ensures answers c.end_at-in-Err-answer_strictly-2.ensures

pub returns-in-End-clause-played : goal.returns-in-End-clause-played
returns-in-End-clause-played g c = λ script e.
    let so = at_flush _ _ _ _ _ _ _ c.loop-outlet.outlet c.flush_before_read.new.outlet _ _ _ (as_given _ _ _ _ _ _ _ _ _ _ script e c.loop-outlet.invariant.so) c.in-Ok.ensures in
    ends_end _ _ script c.next_line.new.ahead _ _ _ _ _ c.flush_before_read.new.outlet _ _ _ c.finish-in-End.result so c.in-End.ensures.takes.0 c.in-End.ensures.takes.1 c.finish-in-End.ensures

pub returns-in-Failed-clause-played : goal.returns-in-Failed-clause-played
returns-in-Failed-clause-played g c = λ script e.
    let so = at_flush _ _ _ _ _ _ _ c.loop-outlet.outlet c.flush_before_read.new.outlet _ _ _ (as_given _ _ _ _ _ _ _ _ _ _ script e c.loop-outlet.invariant.so) c.in-Ok.ensures in
    ends_failure _ _ script c.next_line.new.ahead _ _ _ _ _ c.flush_before_read.new.outlet _ _ _ c.finish-in-Failed.result so c.in-Failed.ensures.takes c.in-Failed.ensures.spends.none c.finish-in-Failed.ensures

pub returns-in-NoMemory-clause-played : goal.returns-in-NoMemory-clause-played
returns-in-NoMemory-clause-played g c = λ script e.
    let so = at_flush _ _ _ _ _ _ _ c.loop-outlet.outlet c.flush_before_read.new.outlet _ _ _ (as_given _ _ _ _ _ _ _ _ _ _ script e c.loop-outlet.invariant.so) c.in-Ok.ensures in
    ends_want _ _ script c.next_line.new.ahead _ _ _ _ _ c.flush_before_read.new.outlet _ _ _ _ c.finish-in-NoMemory.result so c.finish-in-NoMemory.ensures

pub loop-outlet-preserved : goal.loop-outlet-preserved
loop-outlet-preserved g c =
    let so = at_flush _ _ _ _ _ _ _ c.loop-outlet.outlet c.flush_before_read.new.outlet _ _ _ c.loop-outlet.invariant.so c.in-Ok.ensures in
    record {
      scenario = c.answer_strictly.ensures.scenario ∙ c.loop-outlet.invariant.scenario;
      counts = counts_append _ _ _ _ _ _ c.loop-outlet.invariant.counts c.next_line.ensures.counts;
      so = at_line _ _ _ _ _ _ _ _ _ _ _ _ _ _ _ c.next_line.new.line.items so c.in-Line.ensures.takes c.saturating_add-number.ensures
          (rw (c.as_slice-kept.ensures.value, c.loop-outlet.invariant.scenario) at c.in-Ok-answer_strictly.ensures.answers);
    }

pub loop-outlet-smaller : goal.loop-outlet-smaller
loop-outlet-smaller g c = c.in-Line.ensures.spends

pub returns-in-Err-answer_strictly-clause-counts : goal.returns-in-Err-answer_strictly-clause-counts
returns-in-Err-answer_strictly-clause-counts g c = counts_append _ _ _ _ _ _ c.loop-outlet.invariant.counts c.next_line.ensures.counts

pub returns-in-Ok-answer_strictly-2-clause-counts : goal.returns-in-Ok-answer_strictly-2-clause-counts
returns-in-Ok-answer_strictly-2-clause-counts g c = counts_append _ _ _ _ _ _ c.loop-outlet.invariant.counts c.next_line.ensures.counts

pub returns-in-Err-answer_strictly-2-clause-counts : goal.returns-in-Err-answer_strictly-2-clause-counts
returns-in-Err-answer_strictly-2-clause-counts g c = counts_append _ _ _ _ _ _ c.loop-outlet.invariant.counts c.next_line.ensures.counts

pub returns-in-End-clause-counts : goal.returns-in-End-clause-counts
returns-in-End-clause-counts g c = counts_append _ _ _ _ _ _ c.loop-outlet.invariant.counts c.next_line.ensures.counts

pub returns-in-Failed-clause-counts : goal.returns-in-Failed-clause-counts
returns-in-Failed-clause-counts g c = counts_append _ _ _ _ _ _ c.loop-outlet.invariant.counts c.next_line.ensures.counts

pub returns-in-NoMemory-clause-counts : goal.returns-in-NoMemory-clause-counts
returns-in-NoMemory-clause-counts g c = counts_append _ _ _ _ _ _ c.loop-outlet.invariant.counts c.next_line.ensures.counts
