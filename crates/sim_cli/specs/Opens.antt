-- The reading of a scenario, and what is left afterwards.
use Rattle.std.specs.Prelude.{◌≡◌, List, [], ◌++◌, Option, Some, Ok}
use Rattle.std.specs.Io.KnownBytes.{Appends, prepend_known}
use Rattle.sim_lines.specs.Cut.{head_of}
use Rattle.sim_lines.specs.Left.{AppendsPart}
use Rattle.sim_lines.specs.Taken.{HasNoMarker}
use Rattle.sim_lines.specs.Waiting.{Waiting}
use Rattle.sim_scenario.specs.Scenario.{Protocol, ScenarioText}
use Rattle.sim_cli.specs.declared.opened.Opened.{Opened}
use Rattle.sim_cli.specs.declared.status.Status.{Status}
use Rattle.sim_cli.specs.declared.status.Status.TheVariants.{Well, BadScenario, BadRequest}
use Rattle.sim_cli.specs.declared.status.Status.TheVariants.{ReaderFailed, WriterFailed}
use Rattle.sim_cli.specs.declared.status.Status.TheVariants.{MemoryWanted}
use Rattle.sim_script.specs.Script.{Text}
use Rattle.sim_cli.specs.Play.{Nodes, ReadsHead, names_of, read_scenario, scenario}
use Rattle.sim_cli.specs.Answers.{Faults}

-- the scenario's text was read, and this script is left
pub record HeadIs (given : Text) (new : Option Text) (text : Text) : Type 0 where
  pub taken : Text
  pub script : Text
  pub left : new ≡ Some script
  pub front : given ≡ taken ++ script
  pub cut : (read rest : Text) → script ≡ read ++ rest → head_of (taken ++ read) ≡ (text, read)

-- A scenario was read from the input: its values, the names of its hosts and probes, its text, and
-- what is left for the script.
pub record IsOpened (protocols : List Protocol) (nodes_of : ScenarioText → Nodes) (given : Text)
    (left : Option Text) (opened : Opened) : Type 0 where
  pub text : Text
  pub said : ScenarioText
  pub head : HeadIs given left text
  pub read : read_scenario protocols text ≡ Ok said
  pub protocol : opened.protocol ≡ said.protocol
  pub scenario : opened.scenario ≡ scenario said
  pub names : opened.names ≡ names_of nodes_of said
  pub kept : opened.text.items ≡ text

-- the line of a fault was written, or a part of it
abbrev pub WritesFault : Option Text → Option Text → Text → Status → Type 0
WritesFault held holds line Well = ⊥
WritesFault held holds line BadScenario = Appends held holds line
WritesFault held holds line BadRequest = ⊥
WritesFault held holds line ReaderFailed = ⊥
WritesFault held holds line WriterFailed = AppendsPart held holds line
WritesFault held holds line MemoryWanted = ⊥

-- the scenario of this input is bad, and this much of the line of its fault was written
pub record IsBad (protocols : List Protocol) (given : Text) (held holds : Option Text)
    (ended : Status) : Type 0 where
  pub line : Text
  pub fault : Faults protocols (head_of given).0 line
  pub written : WritesFault held holds line ended

-- Why there is no scenario, and what was written, by the status.
abbrev pub IsNotOpened : List Protocol → Text → Waiting → Option Text → Option Text → Option Text
    → Status → Type 0
IsNotOpened protocols given ahead left held holds Well = ⊥
IsNotOpened protocols given ahead left held holds BadScenario =
    IsBad protocols given held holds BadScenario × ReadsHead given left
IsNotOpened protocols given ahead left held holds BadRequest = ⊥
IsNotOpened protocols given ahead left held holds ReaderFailed =
    HasNoMarker (Some given) (prepend_known ahead.bytes left) × (ahead.bytes ≡ []) × (holds ≡ held)
IsNotOpened protocols given ahead left held holds WriterFailed =
    IsBad protocols given held holds WriterFailed
IsNotOpened protocols given ahead left held holds MemoryWanted = holds ≡ held
