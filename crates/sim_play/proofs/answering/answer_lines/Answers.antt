use Rattle.std.proofs.Common.{refl, ◌∙◌, None}
use Rattle.std.specs.Io.KnownBytes.{prepend_known}
use Rattle.sim_lines.proofs.Counting.{counts_none, counts_append}
use Rattle.sim_cli.specs.Turns.{course_of}
use Rattle.sim_cli.proofs.Runs.{as_given, at_start, at_flush, at_line, at_want, at_stop, at_end, at_failure, at_last, at_part, at_last_part}
use Rattle.sim_play.proofs.answering.answer_lines.Goals as goal

pub loop-outlet-init : goal.loop-outlet-init
loop-outlet-init g c = record { scenario = refl; counts = counts_none _ _ _ refl; so = at_start _ _ _ _ c.new-outlet.result _ c.new-outlet.ensures }

pub returns-in-Err-clause-played : goal.returns-in-Err-clause-played
returns-in-Err-clause-played g c = λ script e.
    at_stop _ _ script c.loop-outlet.ahead (prepend_known c.loop-outlet.ahead.bytes (g.R.Read.remaining c.loop-outlet.reader)) None _ _ _ c.loop-outlet.outlet _ _ (course_of c.loop-outlet.book) (as_given _ _ _ _ _ _ _ _ _ script e c.loop-outlet.invariant.so) c.in-Err.ensures

pub returns-in-WriterFailed-clause-played : goal.returns-in-WriterFailed-clause-played
returns-in-WriterFailed-clause-played g c = λ script e.
    let so = at_flush _ _ _ _ _ _ _ c.loop-outlet.outlet c.flush_before_read.new.outlet _ _ (as_given _ _ _ _ _ _ _ _ _ script e c.loop-outlet.invariant.so) c.in-Ok.ensures in
    at_part _ _ script _ _ _ _ _ _ _ _ c.next_line.new.line.items so c.in-Line.ensures.takes (rw (c.as_slice.ensures.value, c.loop-outlet.invariant.scenario) at c.in-WriterFailed.ensures.answers)

pub returns-in-MemoryWanted-clause-played : goal.returns-in-MemoryWanted-clause-played
returns-in-MemoryWanted-clause-played g c = λ script e.
    let so = at_flush _ _ _ _ _ _ _ c.loop-outlet.outlet c.flush_before_read.new.outlet _ _ (as_given _ _ _ _ _ _ _ _ _ script e c.loop-outlet.invariant.so) c.in-Ok.ensures in
    let after = at_flush _ _ _ _ _ _ _ c.flush_before_read.new.outlet c.answer_line.new.outlet _ _ so c.in-MemoryWanted.ensures.answers in
    at_want _ _ script c.next_line.new.ahead _ _ _ _ _ c.answer_line.new.outlet _ _ _ c.finish.result after c.finish.ensures

pub returns-in-Well-answer_line-clause-played : goal.returns-in-Well-answer_line-clause-played
returns-in-Well-answer_line-clause-played g c = λ script e.
    let so = at_flush _ _ _ _ _ _ _ c.loop-outlet.outlet c.flush_before_read.new.outlet _ _ (as_given _ _ _ _ _ _ _ _ _ script e c.loop-outlet.invariant.so) c.in-Ok.ensures in
    at_last _ _ script c.next_line.new.ahead _ _ _ _ _ _ _ _ _ _ _ c.next_line.new.line.items c.finish-in-Well-answer_line.result so c.in-Last.ensures.takes
    (rw (c.as_slice-in-Last.ensures.value, c.loop-outlet.invariant.scenario) at c.in-Well-answer_line.ensures.answers) c.finish-in-Well-answer_line.ensures

pub returns-in-WriterFailed-answer_line-clause-played : goal.returns-in-WriterFailed-answer_line-clause-played
returns-in-WriterFailed-answer_line-clause-played g c = λ script e.
    let so = at_flush _ _ _ _ _ _ _ c.loop-outlet.outlet c.flush_before_read.new.outlet _ _ (as_given _ _ _ _ _ _ _ _ _ script e c.loop-outlet.invariant.so) c.in-Ok.ensures in
    at_last_part _ _ script _ _ _ _ _ _ _ _ c.next_line.new.line.items so c.in-Last.ensures.takes
    (rw (c.as_slice-in-Last.ensures.value, c.loop-outlet.invariant.scenario) at c.in-WriterFailed-answer_line.ensures.answers)

pub returns-in-MemoryWanted-answer_line-clause-played : goal.returns-in-MemoryWanted-answer_line-clause-played
returns-in-MemoryWanted-answer_line-clause-played g c = λ script e.
    let so = at_flush _ _ _ _ _ _ _ c.loop-outlet.outlet c.flush_before_read.new.outlet _ _ (as_given _ _ _ _ _ _ _ _ _ script e c.loop-outlet.invariant.so) c.in-Ok.ensures in
    let after = at_flush _ _ _ _ _ _ _ c.flush_before_read.new.outlet c.answer_line-in-Last.new.outlet _ _ so c.in-MemoryWanted-answer_line.ensures.answers in
    at_want _ _ script c.next_line.new.ahead _ _ _ _ _ c.answer_line-in-Last.new.outlet _ _ _ c.finish-in-MemoryWanted-answer_line.result after c.finish-in-MemoryWanted-answer_line.ensures

pub returns-in-End-clause-played : goal.returns-in-End-clause-played
returns-in-End-clause-played g c = λ script e.
    let so = at_flush _ _ _ _ _ _ _ c.loop-outlet.outlet c.flush_before_read.new.outlet _ _ (as_given _ _ _ _ _ _ _ _ _ script e c.loop-outlet.invariant.so) c.in-Ok.ensures in
    at_end _ _ script c.next_line.new.ahead _ _ _ _ _ c.flush_before_read.new.outlet _ _ c.finish-in-End.result so c.in-End.ensures.takes.0 c.in-End.ensures.takes.1 c.finish-in-End.ensures

pub returns-in-Failed-clause-played : goal.returns-in-Failed-clause-played
returns-in-Failed-clause-played g c = λ script e.
    let so = at_flush _ _ _ _ _ _ _ c.loop-outlet.outlet c.flush_before_read.new.outlet _ _ (as_given _ _ _ _ _ _ _ _ _ script e c.loop-outlet.invariant.so) c.in-Ok.ensures in
    at_failure _ _ script c.next_line.new.ahead _ _ _ _ _ c.flush_before_read.new.outlet _ _ c.finish-in-Failed.result so c.in-Failed.ensures.takes c.in-Failed.ensures.spends.none c.finish-in-Failed.ensures

pub returns-in-NoMemory-clause-played : goal.returns-in-NoMemory-clause-played
returns-in-NoMemory-clause-played g c = λ script e.
    let so = at_flush _ _ _ _ _ _ _ c.loop-outlet.outlet c.flush_before_read.new.outlet _ _ (as_given _ _ _ _ _ _ _ _ _ script e c.loop-outlet.invariant.so) c.in-Ok.ensures in
    at_want _ _ script c.next_line.new.ahead _ _ _ _ _ c.flush_before_read.new.outlet _ _ _ c.finish-in-NoMemory.result so c.finish-in-NoMemory.ensures

pub loop-outlet-preserved : goal.loop-outlet-preserved
loop-outlet-preserved g c =
    let so = at_flush _ _ _ _ _ _ _ c.loop-outlet.outlet c.flush_before_read.new.outlet _ _ c.loop-outlet.invariant.so c.in-Ok.ensures in
    record {
      scenario = c.answer_line.ensures.scenario ∙ c.loop-outlet.invariant.scenario;
      counts = counts_append _ _ _ _ _ _ c.loop-outlet.invariant.counts c.next_line.ensures.counts;
      so = at_line _ _ _ _ _ _ _ _ _ _ _ _ _ c.next_line.new.line.items so c.in-Line.ensures.takes (rw (c.as_slice.ensures.value, c.loop-outlet.invariant.scenario) at c.in-Well.ensures.answers);
    }

pub loop-outlet-smaller : goal.loop-outlet-smaller
loop-outlet-smaller g c = c.in-Line.ensures.spends

pub returns-in-WriterFailed-clause-counts : goal.returns-in-WriterFailed-clause-counts
returns-in-WriterFailed-clause-counts g c = counts_append _ _ _ _ _ _ c.loop-outlet.invariant.counts c.next_line.ensures.counts

pub returns-in-MemoryWanted-clause-counts : goal.returns-in-MemoryWanted-clause-counts
returns-in-MemoryWanted-clause-counts g c = counts_append _ _ _ _ _ _ c.loop-outlet.invariant.counts c.next_line.ensures.counts

pub returns-in-Well-answer_line-clause-counts : goal.returns-in-Well-answer_line-clause-counts
returns-in-Well-answer_line-clause-counts g c = counts_append _ _ _ _ _ _ c.loop-outlet.invariant.counts c.next_line.ensures.counts

pub returns-in-WriterFailed-answer_line-clause-counts : goal.returns-in-WriterFailed-answer_line-clause-counts
returns-in-WriterFailed-answer_line-clause-counts g c = counts_append _ _ _ _ _ _ c.loop-outlet.invariant.counts c.next_line.ensures.counts

pub returns-in-MemoryWanted-answer_line-clause-counts : goal.returns-in-MemoryWanted-answer_line-clause-counts
returns-in-MemoryWanted-answer_line-clause-counts g c = counts_append _ _ _ _ _ _ c.loop-outlet.invariant.counts c.next_line.ensures.counts

pub returns-in-End-clause-counts : goal.returns-in-End-clause-counts
returns-in-End-clause-counts g c = counts_append _ _ _ _ _ _ c.loop-outlet.invariant.counts c.next_line.ensures.counts

pub returns-in-Failed-clause-counts : goal.returns-in-Failed-clause-counts
returns-in-Failed-clause-counts g c = counts_append _ _ _ _ _ _ c.loop-outlet.invariant.counts c.next_line.ensures.counts

pub returns-in-NoMemory-clause-counts : goal.returns-in-NoMemory-clause-counts
returns-in-NoMemory-clause-counts g c = counts_append _ _ _ _ _ _ c.loop-outlet.invariant.counts c.next_line.ensures.counts
