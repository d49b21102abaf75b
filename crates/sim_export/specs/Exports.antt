-- A run as an input for a play.
use Rattle.std.specs.Prelude.{◌≡◌, ◌⊎◌, List, [], ◌++◌, codes, map, Option, Some, Result, Ok}
use Rattle.std.specs.Prelude.{MatchResult, string_bytes}
use Rattle.std.specs.Str.Lines.{lines}
use Rattle.std.specs.Io.KnownBytes.{Appends, prepend_known}
use Rattle.sim_lines.specs.Cut.{head_of}
use Rattle.sim_lines.specs.Left.{AppendsPart}
use Rattle.sim_events.specs.declared.Event.{Event}
use Rattle.sim_world.specs.Events.{Rules}
use Rattle.sim_scenario.specs.Scenario.{Protocol, ScenarioText, Fault}
use Rattle.sim_script.specs.Script.{Text, Names, script_line}
use Rattle.sim_script.specs.declared.script.ScriptLine.TheVariants.{Asked}
use Rattle.sim_reseed.specs.Input.{with_line_end}
use Rattle.sim_input.specs.Events.{AreRead, command_of}
use Rattle.sim_input.specs.declared.events.LineError.{LineError}
use Rattle.sim_input.specs.declared.events.LineError.TheVariants as line
use Rattle.sim_reseed.specs.declared.error.ReseedError.{ReseedError}
use Rattle.sim_reseed.specs.declared.error.ReseedError.TheVariants as reseed
use Rattle.sim_cli.specs.declared.status.Status.{Status}
use Rattle.sim_cli.specs.declared.status.Status.TheVariants.{Well, BadScenario, BadRequest}
use Rattle.sim_cli.specs.declared.status.Status.TheVariants.{ReaderFailed, WriterFailed}
use Rattle.sim_cli.specs.declared.status.Status.TheVariants.{MemoryWanted}
use Rattle.sim_cli.specs.Lines.{fault_line}
use Rattle.sim_cli.specs.Play.{Ended, Nodes, names_of, read_scenario}
use Rattle.sim_cli.specs.Subjects.{Ports}
use Rattle.sim_export.specs.declared.input.InputError.{InputError}
use Rattle.sim_export.specs.declared.input.InputError.TheVariants as unwritten
use Rattle.sim_export.specs.declared.export.Export.{Export}
use Rattle.sim_export.specs.declared.export.Export.TheVariants.{Input, Shown, Nowhere, BadRange}
use Rattle.sim_export.specs.declared.export.Export.TheVariants.{BadCondition, BadScript, NoInput}

-- why a run has no input: one of its events has no line
abbrev pub no_input_by_line : LineError → InputError
no_input_by_line line.NoLine = unwritten.NoInput
no_input_by_line line.NoMemory = unwritten.NoMemory

-- or its scenario has no numbered text, or begins no input
abbrev pub no_input_by_scenario : ReseedError → InputError
no_input_by_scenario reseed.NoMemory = unwritten.NoMemory
no_input_by_scenario _ = unwritten.NoInput

-- Cut as a play cuts it, the input is the text of this scenario, with a line end after its last
-- line, and a script. If each name is read as its host, the lines of the script are read as the
-- commands that make exactly these events.
pub record Makes (scenario : Text) (names : Names) (events : List Event)
    (input : Text) : Type 0 where
  pub script : Text
  pub cut : head_of input ≡ (with_line_end scenario, script)
  pub asks : AreRead names
      → map (script_line names) (lines script) ≡ map (λ e. Asked (command_of e)) events

-- The input makes these events in the scenario that its text describes.
pub record IsInput (protocols : List Protocol) (said : ScenarioText) (names : Names)
    (events : List Event) (input : Text) : Type 0 where
  pub scenario : Text
  pub read : read_scenario protocols (with_line_end scenario) ≡ Ok said
  pub makes : Makes scenario names events input

abbrev pub export_text : Export → Text
export_text (Input text) = string_bytes text
export_text (Shown text) = text.items
export_text Nowhere = codes "none\n"
export_text BadRange = codes "bad range\n"
export_text BadCondition = codes "bad condition\n"
export_text BadScript = []
export_text NoInput = codes "no input\n"

abbrev pub export_status : Export → Status
export_status (Input text) = Well
export_status (Shown text) = Well
export_status Nowhere = Well
export_status BadRange = BadRequest
export_status BadCondition = BadRequest
export_status BadScript = BadRequest
export_status NoInput = BadRequest

-- the export was written and its status returned, or the writer failed after a front part of it
abbrev pub WritesExport : Option Text → Option Text → Export → Status → Type 0
WritesExport held holds e ended =
    ((ended ≡ export_status e) × Appends held holds (export_text e))
    ⊎ ((ended ≡ WriterFailed) × AppendsPart held holds (export_text e))

-- this text and status are those of an export that is right
pub record IsExported (IsRight : Export → Type 0) (text : Text) (ended : Status) : Type 0 where
  pub export : Export
  pub right : IsRight export
  pub whole : text ≡ export_text export
  pub status : ended ≡ export_status export

-- Which bytes are written with a status, if `IsRight` says which texts and statuses are right: such
-- a text, a beginning of one, or nothing.
module _ (IsRight : Text → Status → Type 0) where
  pub record IsBegun (written : Text) : Type 0 where
    pub more : Text
    pub status : Status
    pub right : IsRight (written ++ more) status

  abbrev pub Tells : Status → Text → Type 0
  Tells Well written = IsRight written Well
  Tells BadScenario written = IsRight written BadScenario
  Tells BadRequest written = IsRight written BadRequest
  Tells ReaderFailed written = written ≡ []
  Tells WriterFailed written = IsBegun written
  Tells MemoryWanted written = written ≡ []

-- Which exports are right for the rules of a run, the names of hosts and probes, the text of the
-- scenario and the script.
abbrev pub Right : Type 1
Right = (State Msg : Type 0) → Rules State Msg → Names → Text → Text → Export → Type 0

-- the scenario with this text was read, and a right export for the script was written
abbrev pub WritesFor : {State Msg : Type 0} → Right → Text → Rules State Msg → Names → Ports → Ports
    → Status → Type 0
WritesFor right text r names old new ended = (script : Text)
    → prepend_known old.ahead.bytes old.left ≡ Some script
    → Ended old.held new.held (Tells (IsExported (right _ _ r names text script)) ended)

-- A scenario names one of these protocols, and determines the nodes of a run.
module _ (right : Right) (protocols : List Protocol) (nodes_of : ScenarioText → Nodes) where
  -- this text and status are right for a scenario and a script, or report the scenario's fault
  abbrev pub IsRightFor : Text × Text → Result ScenarioText Fault → Text → Status → Type 0
  IsRightFor cut read text ended = MatchResult read
      (λ said. IsExported (right _ _ (nodes_of said).rules (names_of nodes_of said) cut.0 cut.1)
      text ended)
      (λ why. (text ≡ fault_line why) × (ended ≡ BadScenario))

  -- which bytes are written for an input
  abbrev pub Written : Text → Status → Text → Type 0
  Written given ended written =
      Tells (IsRightFor (head_of given) (read_scenario protocols (head_of given).0)) ended written
