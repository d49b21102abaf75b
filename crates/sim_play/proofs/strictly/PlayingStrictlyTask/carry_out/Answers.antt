use Rattle.std.proofs.Common.{◌≡◌, None, ap, length, refl}
use Rattle.sim_lines.proofs.Known.{Appends-none}
use Rattle.sim_lines.proofs.Counting.{counts_none}
use Rattle.sim_events.specs.Scenario.{Scenario}
use Rattle.sim_world.specs.Events.{rules}
use Rattle.sim_book.specs.Kept.{all_shown}
use Rattle.sim_cli.specs.declared.status.Status.TheVariants.{BadRequest}
use Rattle.sim_cli.specs.Turns.{beginning, course_of}
use Rattle.sim_cli.proofs.Whole.{wants_script}
use Rattle.sim_play.proofs.WholeStrictly.{by_fault, by_status, strict_begun}
use Rattle.sim_play.proofs.strictly.PlayingStrictlyTask.carry_out.Goals as goal

pub returns-in-Ok-answer_lines_strictly : goal.returns-in-Ok-answer_lines_strictly
returns-in-Ok-answer_lines_strictly g c =
    let course : course_of c.in-Ok.book ≡ beginning = λ i. record { branches = all_shown (c.in-Ok.ensures.branches i); taken = length (c.in-Ok.ensures.history i) } in
    let opened = c.args.opened.now in
    let old = course_of c.in-Ok.book in
    let new = c.answer_lines_strictly.new in
    let left = g.R.Read.remaining new.reader in
    let held = g.W.Write.contents c.args.writer.now in
    let holds = g.W.Write.contents new.writer in
    let q = rules g.N.Node.laws g.N.Node.PROBES c.in-Ok.book.scenario in
    record {
      played = λ script at.
          strict_begun (rules g.N.Node.laws g.N.Node.PROBES opened.scenario) q opened.names old script new.ahead left held holds _ (ap (λ (s : Scenario). rules g.N.Node.laws g.N.Node.PROBES s) c.in-Ok.ensures.scenario) course
          (by_status q opened.names old (course_of new.book) script new.ahead left held holds c.in-Ok-answer_lines_strictly.status (c.in-Ok-answer_lines_strictly.ensures.played script at));
      counts = c.answer_lines_strictly.ensures.counts;
    }

pub returns-in-Err : goal.returns-in-Err
returns-in-Err g c = record { played = λ script at. wants_script _ _ _ script c.args.ahead.now None _ _ (Appends-none _); counts = counts_none _ _ _ refl }

pub returns : goal.returns
returns g c =
    let course : course_of c.in-Ok.book ≡ beginning = λ i. record { branches = all_shown (c.in-Ok.ensures.branches i); taken = length (c.in-Ok.ensures.history i) } in
    let opened = c.args.opened.now in
    let old = course_of c.in-Ok.book in
    let new = c.answer_lines_strictly.new in
    let left = g.R.Read.remaining new.reader in
    let held = g.W.Write.contents c.args.writer.now in
    let holds = g.W.Write.contents new.writer in
    let q = rules g.N.Node.laws g.N.Node.PROBES c.in-Ok.book.scenario in
    record {
      played = λ script at.
          strict_begun (rules g.N.Node.laws g.N.Node.PROBES opened.scenario) q opened.names old script new.ahead left held holds BadRequest (ap (λ (s : Scenario). rules g.N.Node.laws g.N.Node.PROBES s) c.in-Ok.ensures.scenario) course
          (by_fault q opened.names old (course_of new.book) script new.ahead left held holds c.in-Err-answer_lines_strictly.fault (c.in-Err-answer_lines_strictly.ensures.played script at));
      counts = c.answer_lines_strictly.ensures.counts;
    }
