-- The answer to one line, by what was handed over of it.
use Rattle.std.proofs.Common.{◌≡◌, ◌<◌, ◌≤◌, length, Option, refl, ap, ◌∙◌, inl, inr, Result, Ok, Err}
use Rattle.std.specs.Prelude.{IfOk, OnOk, OnErr, IfErr, ◌↔◌}
use Rattle.std.proofs.lemmas.Bool.{cases_lt}
use Rattle.std.proofs.lemmas.List.{length_push}
use Rattle.sim_world.specs.Events.{Rules}
use Rattle.sim_watch.specs.declared.command.Command.{Command}
use Rattle.sim_book.specs.declared.Entry.{Entry}
use Rattle.sim_book.specs.declared.NotTaken.{NotTaken}
use Rattle.sim_book.specs.declared.NotTaken.TheVariants.{HistoryFull, NoMemory}
use Rattle.sim_book.specs.BookOf.{IsTaken}
use Rattle.sim_book.specs.Kept.{BookView}
use Rattle.sim_script.specs.declared.script.ScriptLine.{ScriptLine}
use Rattle.sim_script.specs.declared.script.ScriptLine.TheVariants.{Bad, Asked}
use Rattle.sim_script.specs.Script.{Text, Names}
use Rattle.sim_answers.specs.Lines.{turn_line}
use Rattle.sim_cli.specs.declared.status.Answered.{Answered}
use Rattle.sim_cli.specs.declared.status.Answered.TheVariants as ends
use Rattle.sim_cli.specs.Turns.{Course, Takes, course_of}
use Rattle.sim_cli.specs.Lines.{bad_line}
use Rattle.sim_cli.specs.Play.{Gives}
use Rattle.sim_cli.specs.Answers.{Hands, Answers}

module _ {State Msg : Type 0} (r : Rules State Msg) where
  -- a turn of a book is a turn of its course
  pub takes : (old new : BookView) (command : Command) (turn : Result Entry NotTaken) →
      IfOk turn (λ e. IsTaken r 0 command old.kept old.history e new.kept new.history) → OnOk turn (length old.history < 65536) →
      OnErr turn (new ≡ old) → IfErr turn (λ why. (why ≡ HistoryFull) ↔ (65536 ≤ length old.history)) →
      Takes r (course_of old) command turn (course_of new)
  takes old new command (Ok e) t few s f = (few, ap length t.kept_at_end ∙ length_push old.history e, t.of, t.asked, t.turn)
  takes old new command (Err HistoryFull) t few s f = (f.0 refl, ap course_of s)
  takes old new command (Err NoMemory) t few s f = (elim (cases_lt (length old.history) 65536) [ inl less ↦ less | inr more ↦ absurd (let e = f.1 more in cc) ], ap course_of s)

module _ {State Msg : Type 0} (r : Rules State Msg) (names : Names) where
  by_text : (old new : Course) (line : ScriptLine) (held holds : Option Text) (waiting left text : Text) (e : Answered) →
      Gives r names old line text new → Hands held holds waiting text left e → Answers r names old new line held holds waiting left e
  by_text old new line held holds waiting left text ends.Well g w = record { text = text; gives = g; passes = w }
  by_text old new line held holds waiting left text ends.WriterFailed g w = record { text = text; new = new; gives = g; passes = w }
  by_text old new line held holds waiting left text ends.MemoryWanted g w = absurd w

  pub bad_answer : (course : Course) (line : ScriptLine) (held holds : Option Text) (waiting left text : Text) (e : Answered) →
      Bad ≡ line → text ≡ bad_line → Hands held holds waiting text left e → Answers r names course course line held holds waiting left e
  bad_answer course line held holds waiting left text e b t w = rw (← b) (by_text course course Bad held holds waiting left text e (t, refl) w)

  pub turn_answer : (old new : Course) (line : ScriptLine) (command : Command) (turn : Result Entry NotTaken) (held holds : Option Text) (waiting left text : Text) (e : Answered) →
      Asked command ≡ line → Takes r old command turn new → text ≡ turn_line names turn → Hands held holds waiting text left e →
      Answers r names old new line held holds waiting left e
  turn_answer old new line command turn held holds waiting left text e b t x w =
      rw (← b) (by_text old new (Asked command) held holds waiting left text e (turn, t, x) w)
