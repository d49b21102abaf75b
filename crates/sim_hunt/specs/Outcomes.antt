-- The output of a hunt, and its status.
use Rattle.std.specs.Prelude.{◌≡◌, ℕ, Bool, true, false, List, [], ◌++◌, Option, Result, Ok, Err}
use Rattle.std.specs.Prelude.{◌⊎◌}
use Rattle.std.specs.Io.KnownBytes.{Appends}
use Rattle.sim_lines.specs.Cut.{head_of}
use Rattle.sim_lines.specs.Left.{AppendsPart}
use Rattle.sim_scenario.specs.Scenario.{Protocol, ScenarioText, Fault}
use Rattle.sim_script.specs.Script.{Text}
use Rattle.sim_cli.specs.declared.status.Status.{Status}
use Rattle.sim_cli.specs.declared.status.Status.TheVariants.{Well, BadScenario, BadRequest}
use Rattle.sim_cli.specs.declared.status.Status.TheVariants.{ReaderFailed, WriterFailed}
use Rattle.sim_cli.specs.declared.status.Status.TheVariants.{MemoryWanted}
use Rattle.sim_cli.specs.Lines.{fault_line}
use Rattle.sim_cli.specs.Play.{Nodes, names_of, read_scenario}
use Rattle.sim_hunt.specs.declared.answer.Answer.{Answer}
use Rattle.sim_hunt.specs.declared.answer.Form.{Form}
use Rattle.sim_hunt.specs.declared.answer.Form.TheVariants.{Words, Json}
use Rattle.sim_hunt.specs.declared.hunting.Area.{Area}
use Rattle.sim_hunt.specs.Answers.{answer_line, status_of}
use Rattle.sim_hunt.specs.Hunts.{hunt_answer}

-- the status and the line of a hunt if the reader, the writer and memory do not fail
pub record Outcome : Type 0 where
  pub status : Status
  pub line : Text

abbrev pub faulty : Fault → Outcome
faulty why = record { status = BadScenario; line = fault_line why }

abbrev pub answered : Form → Answer → Outcome
answered form a = record { status = status_of a; line = answer_line form a }

-- the answer of a sweep is in words, or in JSON with its numbers
abbrev pub form_of : Bool → ℕ → ℕ → ℕ → Form
form_of false first count events = Words
form_of true first count events =
    Json (record { first = first; count = count; events = events })

-- the output for an outcome, by the status: its line, or nothing, or a beginning of the line
abbrev pub EndsBy : Outcome → Status → Text → Type 0
EndsBy o Well written = (o.status ≡ Well) × (written ≡ o.line)
EndsBy o BadScenario written = (o.status ≡ BadScenario) × (written ≡ o.line)
EndsBy o BadRequest written = (o.status ≡ BadRequest) × (written ≡ o.line)
EndsBy o ReaderFailed written = written ≡ []
EndsBy o WriterFailed written = (more : Text) × (o.line ≡ written ++ more)
EndsBy o MemoryWanted written = written ≡ []

-- the line was written and the status is the outcome's, or the writer failed and has a front of the
-- line
abbrev pub WritesOutcome : Option Text → Option Text → Outcome → Status → Type 0
WritesOutcome held holds o ended =
    ((ended ≡ o.status) × Appends held holds o.line)
    ⊎ ((ended ≡ WriterFailed) × AppendsPart held holds o.line)

-- the line of an answer was written with its status, or memory was wanted and nothing was written
abbrev pub WritesAnswer : Option Text → Option Text → Form → Answer → Status → Type 0
WritesAnswer held holds form a ended =
    WritesOutcome held holds (answered form a) ended ⊎ ((ended ≡ MemoryWanted)
    × Appends held holds [])

-- A scenario names one of these protocols, and determines the nodes of a run.
module _ (protocols : List Protocol) (nodes_of : ScenarioText → Nodes) where
  module _ (form : Form) (area : Area) (cond : Text) where
    -- the answer to a hunt, or the fault of the scenario
    abbrev pub outcome_of : Result ScenarioText Fault → Text → Outcome
    outcome_of (Err why) script = faulty why
    outcome_of (Ok s) script =
        answered form (hunt_answer (nodes_of s).rules (names_of nodes_of s) area cond script)

    -- The outcome of a hunt for an input. The scenario is the text before the first line `---`, and
    -- the script follows it. A sweep depends on the script only with `script`.
    abbrev pub outcome : Text → Outcome
    outcome input = outcome_of (read_scenario protocols (head_of input).0) (head_of input).1

    -- the output of a hunt for an input, by its status
    abbrev pub Hunted : Text → Status → Text → Type 0
    Hunted given ended written = EndsBy (outcome given) ended written
