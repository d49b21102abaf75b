-- The output for an input.
use Rattle.std.specs.Prelude.{◌≡◌, ◌++◌, ◌≤◌, ◌*◌, ◌^◌, nat_lt, List, [], ◌∷◌, length, Option, Some}
use Rattle.std.specs.Prelude.{codes, Result, Ok, Err, MatchResult, IsOk, IsErr, if◌then◌else◌}
use Rattle.std.specs.List.{concat, AllByRecursion}
use Rattle.std.specs.Io.KnownBytes.{Appends, Consumes, IsAtEnd, prepend_known}
use Rattle.std.specs.Str.{is_utf8}
use Rattle.std.specs.Str.Lines.{lines}
use Rattle.sim_lines.specs.Cut.{head_of, whole_lines}
use Rattle.sim_lines.specs.Taken.{HasHead}
use Rattle.sim_lines.specs.Waiting.{Waiting}
use Rattle.sim_events.specs.Scenario.{Scenario}
use Rattle.sim_world.specs.Events.{Rules}
use Rattle.sim_scenario.specs.Scenario.{Protocol, ScenarioText, Fault, read, text_fault}
use Rattle.sim_script.specs.declared.script.ScriptLine.{ScriptLine}
use Rattle.sim_script.specs.declared.script.ScriptLine.TheVariants.{Nothing, Bad, Asked}
use Rattle.sim_script.specs.Script.{Text, Names, script_line}
use Rattle.sim_watch.specs.declared.command.Command.{Command}
use Rattle.sim_book.specs.declared.Entry.{Entry}
use Rattle.sim_book.specs.declared.NotTaken.{NotTaken}
use Rattle.sim_book.specs.Book.{Book}
use Rattle.sim_watch.specs.Commands.{branch_of}
use Rattle.sim_book.specs.Answer.{answer}
use Rattle.sim_answers.specs.Lines.{line, reply_words, turn_line}
use Rattle.sim_cli.specs.declared.status.Status.{Status}
use Rattle.sim_cli.specs.declared.status.Status.TheVariants.{Well, BadScenario, BadRequest}
use Rattle.sim_cli.specs.declared.status.Status.TheVariants.{ReaderFailed, WriterFailed}
use Rattle.sim_cli.specs.declared.status.Status.TheVariants.{MemoryWanted}
use Rattle.sim_cli.specs.Lines.{bad_line, fault_line}
use Rattle.sim_cli.specs.Turns.{Course, beginning, most_entries, Takes, course_after}

abbrev pub full_line : Text
full_line = codes "not taken HistoryFull\n"

-- a text is no report of want of memory
abbrev pub TellsNoWant : Text → Type 0
TellsNoWant text =
    (text ≡ codes "refused 12 NoMemory\n" → ⊥) × (text ≡ codes "not taken NoMemory\n" → ⊥)

module _ {State Msg : Type 0} (r : Rules State Msg) (names : Names) where
  -- the texts that may answer a line of a script, and the course after it
  abbrev pub Gives : Course → ScriptLine → Text → Course → Type 0
  Gives old Nothing text new = (text ≡ []) × (new ≡ old)
  Gives old Bad text new = (text ≡ bad_line) × (new ≡ old)
  Gives old (Asked command) text new =
      (turn : Result Entry NotTaken) × Takes r old command turn new × (text ≡ turn_line names turn)

  -- one text for each line, from one course to another
  abbrev pub Run : Course → List Text → List Text → Course → Type 0
  Run old [] [] new = new ≡ old
  Run old (l ∷ ls) (text ∷ texts) new =
      (mid : Course) × Gives old (script_line names l) text mid × Run mid ls texts new
  Run old [] (text ∷ texts) new = ⊥
  Run old (l ∷ ls) [] new = ⊥

  -- the line of the answer to a command
  abbrev pub answer_line : Book → Command → Text
  answer_line book command = line (reply_words names (branch_of command) (answer r book command))

  -- the answer to a line if memory suffices
  abbrev pub plain_text : Course → ScriptLine → Text
  plain_text old Nothing = []
  plain_text old Bad = bad_line
  plain_text old (Asked command) =
      if nat_lt old.taken most_entries then answer_line old.branches command else full_line

  abbrev pub plain_next : Course → ScriptLine → Course
  plain_next old Nothing = old
  plain_next old Bad = old
  plain_next old (Asked command) = course_after r old command

  -- the output for the lines of a script if memory suffices
  abbrev pub out_from : Course → List Text → Text
  out_from old [] = []
  out_from old (l ∷ ls) =
      plain_text old (script_line names l) ++ out_from (plain_next old (script_line names l)) ls

  -- the course after them
  abbrev pub end_from : Course → List Text → Course
  end_from old [] = old
  end_from old (l ∷ ls) = end_from (plain_next old (script_line names l)) ls

  -- What was written is these texts of turns, one for each line, up to the last course. If none
  -- reports want of memory, they are the answers.
  pub record Tells (old : Course) (ls texts : List Text) (written : Text) : Type 0 where
    pub last : Course
    pub run : Run old ls texts last
    pub all : written ≡ concat texts
    pub plain : AllByRecursion TellsNoWant texts → (written ≡ out_from old ls)
        × (last ≡ end_from old ls)

  pub record TellsLines (old : Course) (ls : List Text) (written : Text) : Type 0 where
    pub texts : List Text
    pub tells : Tells old ls texts written

  -- the same, up to this course
  abbrev pub TellsTo : Course → List Text → Course → Text → Type 0
  TellsTo old ls new written = (t : TellsLines old ls written) × (t.tells.last ≡ new)

  -- a beginning of such texts
  pub record Begins (old : Course) (ls : List Text) (written : Text) : Type 0 where
    pub more : Text
    pub tells : TellsLines old ls (written ++ more)

  -- A front of the script was read, the rest is left, and all whole lines that were read were
  -- answered.
  pub record StopsAfter (old : Course) (script : Text) (new : Course) (left : Option Text)
      (written : Text) : Type 0 where
    pub read : Text
    pub rest : Text
    pub front : script ≡ read ++ rest
    pub is_left : left ≡ Some rest
    pub tells : TellsTo old (whole_lines read) new written

  -- The output for a script, and the course after it. `ahead` was read and not taken, and `left` is
  -- left to be read.
  abbrev pub Plays : Course → Text → Course → Waiting → Option Text → Status → Text → Type 0
  Plays old script new ahead left Well written =
      IsAtEnd (prepend_known ahead.bytes left) × TellsTo old (lines script) new written
  Plays old script new ahead left BadScenario written = ⊥
  Plays old script new ahead left BadRequest written = ⊥
  Plays old script new ahead left ReaderFailed written =
      (ahead.bytes ≡ []) × StopsAfter old script new left written
  Plays old script new ahead left WriterFailed written = Begins old (lines script) written
  Plays old script new ahead left MemoryWanted written = Begins old (lines script) written

  -- the same, whatever the course after it
  abbrev pub PlaysOn : Course → Text → Waiting → Option Text → Status → Text → Type 0
  PlaysOn old script ahead left status written =
      (new : Course) × Plays old script new ahead left status written

-- the text that was written, and that it is as required
pub record Ended (held holds : Option Text) (P : Text → Type 0) : Type 0 where
  pub written : Text
  pub appended : Appends held holds written
  pub is : P written

-- the scenario in these bytes, which may name any of these protocols, or why they are none: a text
-- that is too long, then one that is not UTF-8
unfoldable pub read_scenario : List Protocol → Text → Result ScenarioText Fault
read_scenario protocols text =
    if nat_lt 65536 (length text) then Err (text_fault 1)
    else (if is_utf8 text then read protocols text else Err (text_fault 2))

abbrev pub scenario : ScenarioText → Scenario
scenario s = record {
  seed = s.seed;
  tick = s.tick;
  ways = s.ways;
  setup = record { servers = s.servers; hosts = length s.names; ops = s.ops };
  interval = s.checkpoint;
  window = s.window;
  disk_latency = s.disk_latency;
}

-- The nodes of a run: their rules, and the names of their probes in the order of their numbers.
pub record Nodes : Type 1 where
  pub State : Type 0
  pub Msg : Type 0
  pub rules : Rules State Msg
  pub probes : List Text

-- No more was read than a scenario's text with its marker line, or 65,600 bytes without one, and
-- the block of at most 4,096 bytes in which this ended.
pub record ReadsHead (given : Text) (left : Option Text) : Type 0 where
  pub text : Text
  pub block : Text
  pub few : length block ≤ 4096
  pub head : HasHead (Some given) (prepend_known block left) text

-- no more was read than 2^40 reads of 4,096 bytes return
pub record IsWithinReads (left left' : Option Text) : Type 0 where
  pub read : Text
  pub consumed : Consumes left left' read
  pub few : length read ≤ 4096 * 2 ^ 40

-- A scenario determines the nodes of a run.
module _ (nodes_of : ScenarioText → Nodes) where
  abbrev pub names_of : ScenarioText → Names
  names_of s = record { hosts = s.names; probes = (nodes_of s).probes }

  abbrev pub out_of : Result ScenarioText Fault → List Text → Text
  out_of (Err why) script = fault_line why
  out_of (Ok s) script = out_from (nodes_of s).rules (names_of s) beginning script

-- A scenario names one of these protocols, and determines the nodes of a run.
module _ (protocols : List Protocol) (nodes_of : ScenarioText → Nodes) where
  -- The output for an input if memory suffices. The scenario is the text before the first line
  -- `---`, and the script's lines follow it.
  abbrev pub out : Text → Text
  out input = out_of nodes_of (read_scenario protocols (head_of input).0) (lines (head_of input).1)

  -- The output for a whole input: the fault of its scenario, or the texts for the lines of its
  -- script. If none reports want of memory, it is `out`.
  pub record TellsAll (given written : Text) : Type 0 where
    pub texts : List Text
    pub tells : MatchResult (read_scenario protocols (head_of given).0)
        (λ s. Tells (nodes_of s).rules (names_of nodes_of s) beginning
        (lines (head_of given).1) texts written) (λ why. written ≡ fault_line why)
    pub plain : AllByRecursion TellsNoWant texts → written ≡ out given

  -- the output for the whole lines of an input that stopped: nothing if it has no scenario
  abbrev pub TellsWhole : Text → Text → Type 0
  TellsWhole read written =
      MatchResult (read_scenario protocols (head_of read).0)
      (λ s. TellsLines (nodes_of s).rules (names_of nodes_of s) beginning
      (whole_lines (head_of read).1) written) (λ _. written ≡ [])

  -- a beginning of the output for a whole input
  pub record BeginsAll (given written : Text) : Type 0 where
    pub more : Text
    pub tells : TellsAll given (written ++ more)

  -- A front of the input was read, the rest is left, and all whole lines that were read were
  -- answered.
  pub record StopsIn (given : Text) (left : Option Text) (written : Text) : Type 0 where
    pub read : Text
    pub rest : Text
    pub front : given ≡ read ++ rest
    pub is_left : left ≡ Some rest
    pub tells : TellsWhole read written

  -- The output for an input, and what is left of it, by the status of the play.
  abbrev pub Played : Text → Option Text → Status → Text → Type 0
  Played given left Well written =
      IsOk (read_scenario protocols (head_of given).0) × IsAtEnd left × TellsAll given written
  Played given left BadScenario written =
      IsErr (read_scenario protocols (head_of given).0) × ReadsHead given left
      × TellsAll given written
  Played given left BadRequest written = ⊥
  Played given left ReaderFailed written = StopsIn given left written
  Played given left WriterFailed written = BeginsAll given written
  Played given left MemoryWanted written = BeginsAll given written
