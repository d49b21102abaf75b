-- How a line of a strict play is answered, and how the play ends at one.
use Rattle.std.specs.Prelude.{◌≡◌, ℕ, true, [], Option, Result, Ok, Err}
use Rattle.sim_lines.specs.Left.{Passes, PassesSome}
use Rattle.sim_world.specs.Events.{Rules}
use Rattle.sim_script.specs.declared.script.ScriptLine.{ScriptLine}
use Rattle.sim_script.specs.Script.{Text, Names}
use Rattle.sim_cli.specs.declared.fault.ScriptFault.{ScriptFault}
use Rattle.sim_cli.specs.declared.status.Status.{Status}
use Rattle.sim_cli.specs.declared.status.Status.TheVariants as status
use Rattle.sim_cli.specs.Turns.{Course}
use Rattle.sim_cli.specs.Answers.{Finishes, GivesPart}
use Rattle.sim_cli.specs.Strict.{Explains, GivesPlain, is_well}
use Rattle.sim_play.specs.declared.strictly.Halt.{Halt}
use Rattle.sim_play.specs.declared.strictly.Halt.TheVariants as halt

module _ {State Msg : Type 0} (r : Rules State Msg) (names : Names) where
  -- A line was answered, one not at fault or one at fault. Or the writer failed, or memory was
  -- wanted and nothing more was handed over.
  abbrev pub AnswersStrictly : {T : Type 0} → Course → Course → ScriptLine → Option Text
      → Option Text → Text → Text → Result T Halt → Type 0
  AnswersStrictly old new line held holds waiting left (Ok _) =
      (is_well r names old line ≡ true) × GivesPlain r names old new line held holds waiting left
  AnswersStrictly old new line held holds waiting left (Err (halt.Fault why)) =
      Explains r names old line why × GivesPlain r names old new line held holds waiting left
  AnswersStrictly old new line held holds waiting left (Err halt.WriterFailed) =
      GivesPart r names old line held holds waiting
  AnswersStrictly old new line held holds waiting left (Err halt.MemoryWanted) =
      Passes held holds waiting [] left

-- What waited was written, and the result is the fault of the line; or the play ends with the
-- status of the writer's failure or of want of memory.
abbrev pub Halts : Option Text → Option Text → Text → ℕ → Text → Halt → Result Status ScriptFault
    → Type 0
Halts held holds waiting number text halt.WriterFailed result =
    (result ≡ Ok status.WriterFailed) × (holds ≡ held)
Halts held holds waiting number text halt.MemoryWanted result = (ended : Status)
    × (result ≡ Ok ended) × Finishes held holds waiting status.MemoryWanted ended
Halts held holds waiting number text (halt.Fault why) (Ok ended) =
    (ended ≡ status.WriterFailed) × PassesSome held holds waiting []
Halts held holds waiting number text (halt.Fault why) (Err f) = (f.number ≡ number)
    × (f.text.items ≡ text) × (f.why ≡ why) × Passes held holds waiting [] []
