-- Scripts without a line at fault, and the first line at fault.
use Rattle.std.specs.Prelude.{◌≡◌, ℕ, ◌+◌, ◌^◌, ◌-◌, ◌<◌, ◌≤◌, nat_lt, min, Bool, true, false, ◌&&◌}
use Rattle.std.specs.Prelude.{is_none, List, [], ◌∷◌, ◌++◌, length, Option, None, Some, Result, Ok}
use Rattle.std.specs.Prelude.{Err, MatchResult}
use Rattle.std.specs.Io.KnownBytes.{prepend_known}
use Rattle.std.specs.Str.Lines.{lines}
use Rattle.sim_lines.specs.Cut.{head_of, Shows}
use Rattle.sim_lines.specs.Left.{Passes}
use Rattle.sim_lines.specs.Waiting.{CountsReads, Waiting}
use Rattle.sim_world.specs.Events.{Rules}
use Rattle.sim_watch.specs.declared.command.Command.{Command}
use Rattle.sim_book.specs.declared.Entry.{Entry}
use Rattle.sim_book.specs.declared.NotTaken.{NotTaken}
use Rattle.sim_book.specs.declared.NotTaken.TheVariants.{HistoryFull, NoMemory}
use Rattle.sim_book.specs.declared.Reply.{Reply}
use Rattle.sim_book.specs.declared.Reply.TheVariants as reply
use Rattle.sim_book.specs.declared.Refusal.TheVariants as refusal
use Rattle.sim_book.specs.Answer.{refusal_of}
use Rattle.sim_scenario.specs.Scenario.{Protocol, ScenarioText}
use Rattle.sim_script.specs.declared.script.ScriptLine.{ScriptLine}
use Rattle.sim_script.specs.declared.script.ScriptLine.TheVariants.{Nothing, Bad, Asked}
use Rattle.sim_script.specs.Script.{Text, Names, script_line}
use Rattle.sim_cli.specs.declared.fault.LineFault.{LineFault}
use Rattle.sim_cli.specs.declared.fault.LineFault.TheVariants as fault
use Rattle.sim_cli.specs.declared.fault.ScriptFault.{ScriptFault}
use Rattle.sim_cli.specs.declared.status.Status.{Status}
use Rattle.sim_cli.specs.declared.status.Status.TheVariants as status
use Rattle.sim_cli.specs.Turns.{Course, beginning, most_entries}
use Rattle.sim_cli.specs.Play.{Ended, Nodes, Played, Plays, PlaysOn, end_from, names_of, out_from}
use Rattle.sim_cli.specs.Play.{plain_next, plain_text, read_scenario}
use Rattle.sim_cli.specs.Subjects.{Ports}

-- ---- a turn that was at fault

-- why a reply, or a turn, is no answer to a command that was carried out
abbrev pub fault_of_reply : Reply → Option LineFault
fault_of_reply (reply.Refused why) = Some (fault.Refused why)
fault_of_reply _ = None

abbrev pub fault_of_turn : Result Entry NotTaken → Option LineFault
fault_of_turn (Ok e) = fault_of_reply e.reply
fault_of_turn (Err why) = Some (fault.NotTaken why)

-- whether a fault reports want of memory
abbrev pub wants_memory : LineFault → Bool
wants_memory (fault.Refused refusal.NoMemory) = true
wants_memory (fault.NotTaken NoMemory) = true
wants_memory _ = false

abbrev pub tells_want : Option LineFault → Bool
tells_want None = false
tells_want (Some f) = wants_memory f

-- ---- a script

-- the number of the line after `before` others; 64 bits limit it
abbrev pub number_after : ℕ → ℕ
number_after before = min (before + 1) (2 ^ 64 - 1)

module _ {State Msg : Type 0} (r : Rules State Msg) (names : Names) where
  -- whether a line is not at fault: it asks for nothing, or its command is taken and not refused
  abbrev pub is_well : Course → ScriptLine → Bool
  is_well old Nothing = true
  is_well old Bad = false
  is_well old (Asked command) =
      nat_lt old.taken most_entries && is_none (refusal_of r command old.branches)

  -- whether no line is at fault
  abbrev pub are_well : Course → List Text → Bool
  are_well old [] = true
  are_well old (l ∷ ls) = is_well old (script_line names l)
      && are_well (plain_next r names old (script_line names l)) ls

  -- why a line is at fault
  abbrev pub Explains : Course → ScriptLine → LineFault → Type 0
  Explains old line (fault.Bad mistake) = line ≡ Bad
  Explains old line (fault.Refused why) = (command : Command) × (line ≡ Asked command)
      × (old.taken < most_entries) × (refusal_of r command old.branches ≡ Some why)
  Explains old line (fault.NotTaken HistoryFull) =
      (command : Command) × (line ≡ Asked command) × (most_entries ≤ old.taken)
  Explains old line (fault.NotTaken NoMemory) = ⊥

  -- This line is the first that is at fault: no line before it is.
  pub record IsFirstFault (old : Course) (ls : List Text) (f : ScriptFault) : Type 0 where
    pub before : List Text
    pub line : Text
    pub after : List Text
    pub cut : ls ≡ before ++ line ∷ after
    pub well : are_well old before ≡ true
    pub number : f.number ≡ number_after (length before)
    pub text : Shows f.text.items line
    pub why : Explains (end_from r names old before) (script_line names line) f.why

  -- some line is at fault, and the output ends with the answer to the first such line
  pub record TellsFault (old : Course) (ls : List Text) (written : Text) : Type 0 where
    pub fault : ScriptFault
    pub first : IsFirstFault old ls fault
    pub told : written ≡ out_from r names old (first.before ++ first.line ∷ [])

  -- ---- one line of a strict play

  -- the plain answer to a line was handed over
  pub record GivesPlain (old new : Course) (line : ScriptLine) (held holds : Option Text)
      (waiting left : Text) : Type 0 where
    pub passes : Passes held holds waiting (plain_text r names old line) left
    pub next : new ≡ plain_next r names old line

  -- ---- a strict play

  -- The output of a strict play of a script, and how it ends: as a play in which no line is at
  -- fault if it reaches the end, or with the first line that is.
  abbrev pub StrictlyEnds : Course → Text → Course → Waiting → Option Text → Option Text
      → Option Text → Result Status ScriptFault → Type 0
  StrictlyEnds old script new ahead left held holds (Ok ended) =
      Ended held holds (Plays r names old script new ahead left ended)
      × (ended ≡ status.Well → are_well old (lines script) ≡ true)
  StrictlyEnds old script new ahead left held holds (Err f) =
      (first : IsFirstFault old (lines script) f)
      × Ended held holds (λ written. written ≡ out_from r names old
      (first.before ++ first.line ∷ []))

  -- the same by the status, without the course afterwards and the fault
  abbrev pub PlaysStrictly : Course → Text → Waiting → Option Text → Status → Text → Type 0
  PlaysStrictly old script ahead left status.Well written =
      PlaysOn r names old script ahead left status.Well written
      × (are_well old (lines script) ≡ true)
  PlaysStrictly old script ahead left status.BadScenario written = ⊥
  PlaysStrictly old script ahead left status.BadRequest written =
      TellsFault old (lines script) written
  PlaysStrictly old script ahead left status.ReaderFailed written =
      PlaysOn r names old script ahead left status.ReaderFailed written
  PlaysStrictly old script ahead left status.WriterFailed written =
      PlaysOn r names old script ahead left status.WriterFailed written
  PlaysStrictly old script ahead left status.MemoryWanted written =
      PlaysOn r names old script ahead left status.MemoryWanted written

-- a script was played strictly over nodes with these rules
pub record PlaysScriptStrictly {State Msg : Type 0} (r : Rules State Msg) (names : Names)
    (old new : Ports) (ended : Status) : Type 0 where
  pub played : (script : Text) → prepend_known old.ahead.bytes old.left ≡ Some script
      → Ended old.held new.held (PlaysStrictly r names beginning script new.ahead new.left ended)
  pub counts : CountsReads old.ahead new.ahead old.left new.left

-- A scenario names one of these protocols, and determines the nodes of a run.
module _ (protocols : List Protocol) (nodes_of : ScenarioText → Nodes) where
  -- a property of the rules and the names of a scenario that was read, and of its script
  abbrev pub OfScript : ((s : ScenarioText) → List Text → Type 0) → Text → Type 0
  OfScript P given =
      MatchResult (read_scenario protocols (head_of given).0) (λ s. P s (lines (head_of given).1))
      (λ _. ⊥)

  -- no line of the script is at fault
  abbrev pub IsWellScript : Text → Type 0
  IsWellScript given =
      OfScript (λ s ls. are_well (nodes_of s).rules (names_of nodes_of s) beginning ls ≡ true) given

  -- The output of a strict play for an input, and what is left of it, by the status of the play.
  abbrev pub PlayedStrictly : Text → Option Text → Status → Text → Type 0
  PlayedStrictly given left status.Well written =
      Played protocols nodes_of given left status.Well written × IsWellScript given
  PlayedStrictly given left status.BadScenario written =
      Played protocols nodes_of given left status.BadScenario written
  PlayedStrictly given left status.BadRequest written =
      OfScript (λ s ls. TellsFault (nodes_of s).rules (names_of nodes_of s) beginning ls written)
      given
  PlayedStrictly given left status.ReaderFailed written =
      Played protocols nodes_of given left status.ReaderFailed written
  PlayedStrictly given left status.WriterFailed written =
      Played protocols nodes_of given left status.WriterFailed written
  PlayedStrictly given left status.MemoryWanted written =
      Played protocols nodes_of given left status.MemoryWanted written
