use Rattle.std.proofs.Common.{◌≡◌, None, ap, length, refl}
use Rattle.sim_lines.proofs.Known.{Appends-none}
use Rattle.sim_lines.proofs.Counting.{counts_none}
use Rattle.sim_events.specs.Scenario.{Scenario}
use Rattle.sim_world.specs.Events.{rules}
use Rattle.sim_book.specs.Kept.{all_shown}
use Rattle.sim_cli.specs.Turns.{beginning, course_of}
use Rattle.sim_cli.proofs.Whole.{play_begun, wants_script}
use Rattle.sim_play.proofs.playing.PlayingTask.carry_out.Goals as goal

pub returns-in-Ok : goal.returns-in-Ok
returns-in-Ok g c =
    let course : course_of c.in-Ok.book ≡ beginning = λ i. record { branches = all_shown (c.in-Ok.ensures.branches i); taken = length (c.in-Ok.ensures.history i) } in
    record {
      played = λ script at.
          play_begun _ _ _ _ _ _ script c.answer_lines.new.ahead _ _ _ _ (ap (λ (s : Scenario). rules g.N.Node.laws g.N.Node.PROBES s) c.in-Ok.ensures.scenario) refl course (c.answer_lines.ensures.played script at);
      counts = c.answer_lines.ensures.counts;
    }

pub returns-in-Err : goal.returns-in-Err
returns-in-Err g c = record { played = λ script at. wants_script _ _ _ script c.args.ahead.now None _ _ (Appends-none _); counts = counts_none _ _ _ refl }
