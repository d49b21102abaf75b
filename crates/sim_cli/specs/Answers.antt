-- How the answer to one line ended.
use Rattle.std.specs.Prelude.{◌≡◌, List, [], Option, Err, ◌⊎◌}
use Rattle.std.specs.Io.KnownBytes.{Appends}
use Rattle.sim_lines.specs.Left.{AppendsPart, Passes, PassesSome}
use Rattle.sim_world.specs.Events.{Rules}
use Rattle.sim_scenario.specs.Scenario.{Protocol, Fault}
use Rattle.sim_script.specs.declared.script.ScriptLine.{ScriptLine}
use Rattle.sim_cli.specs.declared.status.Answered.{Answered}
use Rattle.sim_cli.specs.declared.status.Answered.TheVariants.{Well, WriterFailed, MemoryWanted}
use Rattle.sim_cli.specs.declared.status.Status.{Status}
use Rattle.sim_cli.specs.declared.status.Status.TheVariants as status
use Rattle.sim_script.specs.Script.{Text, Names}
use Rattle.sim_cli.specs.Lines.{fault_line}
use Rattle.sim_cli.specs.Turns.{Course}
use Rattle.sim_cli.specs.Play.{Gives, read_scenario}

-- the text was written, or the writer failed after a front of it; memory is never wanted
abbrev pub Writes : Option Text → Option Text → Text → Answered → Type 0
Writes held holds text Well = Appends held holds text
Writes held holds text WriterFailed = AppendsPart held holds text
Writes held holds text MemoryWanted = ⊥

-- the text was handed over, or the writer failed
abbrev pub Hands : Option Text → Option Text → Text → Text → Text → Answered → Type 0
Hands held holds waiting text left Well = Passes held holds waiting text left
Hands held holds waiting text left WriterFailed = PassesSome held holds waiting text
Hands held holds waiting text left MemoryWanted = ⊥

-- all that waited was written, or the writer failed
abbrev pub Finishes : Option Text → Option Text → Text → Status → Status → Type 0
Finishes held holds waiting asked ended =
    ((ended ≡ asked) × Passes held holds waiting [] []) ⊎ ((ended ≡ status.WriterFailed)
    × PassesSome held holds waiting [])

module _ {State Msg : Type 0} (r : Rules State Msg) (names : Names) where
  -- a line was answered by a text that it may get, or by a part of one
  pub record GivesAll (old new : Course) (line : ScriptLine) (held holds : Option Text)
      (waiting left : Text) : Type 0 where
    pub text : Text
    pub gives : Gives r names old line text new
    pub passes : Passes held holds waiting text left

  pub record GivesPart (old : Course) (line : ScriptLine) (held holds : Option Text)
      (waiting : Text) : Type 0 where
    pub text : Text
    pub new : Course
    pub gives : Gives r names old line text new
    pub passes : PassesSome held holds waiting text

  abbrev pub Answers : Course → Course → ScriptLine → Option Text → Option Text → Text → Text
      → Answered → Type 0
  Answers old new line held holds waiting left Well = GivesAll old new line held holds waiting left
  Answers old new line held holds waiting left WriterFailed = GivesPart old line held holds waiting
  Answers old new line held holds waiting left MemoryWanted = Passes held holds waiting [] left

-- the text is no scenario, and the line says why
pub record Faults (protocols : List Protocol) (text line : Text) : Type 0 where
  pub fault : Fault
  pub read : read_scenario protocols text ≡ Err fault
  pub told : line ≡ fault_line fault
