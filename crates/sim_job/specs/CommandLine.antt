-- The command line of the program, as clap reads it, and the request that the matches make.
use Rattle.std.specs.Prelude.{◌≡◌, ◌≢◌, ◌⊎◌, ◌<◌, ◌≤◌, ◌^◌, ℕ, Bool, true, false, codes, List, []}
use Rattle.std.specs.Prelude.{◌∷◌, Option, None, Some, option_map, ⊤}
use Rattle.std.specs.Borrow.{Bor}
use Rattle.std.specs.Str.Parse.{IsNumeral, digits_value, without_leading_plus}
use Rattle.clap.specs.Words.{App, Row, Rule, Shape, Text, IsAmong, Kinds, fault_of, first_of}
use Rattle.clap.specs.Words.{new_rule, one_of, rule_of, shape_of, subcommand_of}
use Rattle.clap.specs.Simple.{new_shape}
use Rattle.clap.specs.declared.builder.arg.Arg.{Arg}
use Rattle.clap.specs.declared.builder.command.Command.{Command}
use Rattle.clap.specs.declared.builder.command.Command.TheViews.{out-Command as fields_of}
use Rattle.clap.specs.declared.builder.action.ArgAction.TheVariants as action
use Rattle.clap.specs.declared.error.kind.ErrorKind.{ErrorKind}
use Rattle.clap.specs.declared.error.kind.ErrorKind.TheVariants as kind
use Rattle.sim_job.specs.declared.line.LineError.{LineError}
use Rattle.sim_job.specs.declared.line.LineError.TheVariants as line_fault
use Rattle.sim_job.specs.declared.wanted.Team.{Team}
use Rattle.sim_job.specs.declared.wanted.FaultPlan.{FaultPlan}
use Rattle.sim_job.specs.declared.wanted.Job.{Job}
use Rattle.sim_job.specs.declared.wanted.Job.TheVariants as job
use Rattle.sim_job.specs.declared.wanted.Request.{Request}

-- ---- the definition of the command line

-- To clap a number is a word; `HasNumber` below says how it is read.

-- `--workers N`, by default 2
abbrev pub workers : Rule
workers = record (new_rule (codes "workers")) {
  long = Some (codes "workers");
  value_names = 1;
  defaults = codes "2" ∷ [];
}

-- a flag, whose long name is its id
abbrev pub flag : Text → Rule
flag id = record (new_rule id) { long = Some id; action = Some action.SetTrue }

abbrev pub progress : Rule
progress = flag (codes "progress")

abbrev pub with_script : Rule
with_script = flag (codes "script")

abbrev pub strict : Rule
strict = flag (codes "strict")

abbrev pub at_end : Rule
at_end = flag (codes "at-end")

abbrev pub json : Rule
json = flag (codes "json")

-- an option with a number; its long name is its id
abbrev pub optional_number : Text → Rule
optional_number id = record (new_rule id) { long = Some id; value_names = 1 }

-- an option with a word
abbrev pub optional_word : Text → Rule
optional_word id = record (new_rule id) { long = Some id; value_names = 1 }

abbrev pub faults : Rule
faults = optional_number (codes "faults")

-- `--quiet Q`, by default 0
abbrev pub quiet : Rule
quiet = record (new_rule (codes "quiet")) {
  long = Some (codes "quiet");
  value_names = 1;
  defaults = codes "0" ∷ [];
}

-- a required number
abbrev pub number : Text → Rule
number id = record (new_rule id) { value_names = 1; required = true }

-- a required word
abbrev pub word : Text → Rule
word id = record (new_rule id) { value_names = 1; required = true }

-- the file with the input, an optional word
abbrev pub input : Rule
input = record (new_rule (codes "file")) { value_names = 1 }

-- a subcommand, by its name and its arguments
abbrev pub command : Text → List Rule → Shape
command name rules = record (new_shape name) { rules = rules }

abbrev pub play : Shape
play = command (codes "play") (strict ∷ input ∷ [])

abbrev pub search : Shape
search = command (codes "search")
    (workers ∷ progress ∷ strict ∷ number (codes "lo") ∷ number (codes "hi") ∷ word (codes "cond")
    ∷ input ∷ [])

abbrev pub sweep : Shape
sweep = command (codes "sweep")
    (workers ∷ progress ∷ with_script ∷ strict ∷ faults ∷ quiet ∷ at_end ∷ json
    ∷ number (codes "first") ∷ number (codes "count") ∷ number (codes "events")
    ∷ word (codes "cond") ∷ input ∷ [])

abbrev pub script : Shape
script =
    command (codes "script") (faults ∷ quiet ∷ number (codes "seed") ∷ number (codes "events")
    ∷ input ∷ [])

abbrev pub shrink : Shape
shrink = command (codes "shrink") (progress ∷ word (codes "cond") ∷ input ∷ [])

abbrev pub log : Shape
log =
    command (codes "log") (optional_number (codes "from") ∷ optional_number (codes "to") ∷ json
    ∷ input ∷ [])

abbrev pub page : Shape
page =
    command (codes "page") (optional_word (codes "title") ∷ optional_word (codes "watch") ∷ input
    ∷ [])

abbrev pub walk : Shape
walk = command (codes "walk") (word (codes "file") ∷ [])

-- the program without its subcommands
abbrev pub bare : App
bare = record {
  top = record (new_shape (codes "simback")) {
    has_version = true;
    subcommand_required = true;
  };
  subs = [];
}

-- the program, with its version, which requires a subcommand; clap adds one named `help`
abbrev pub program : App
program = record {
  top = record (new_shape (codes "simback")) {
    is_leaf = false;
    has_version = true;
    subcommand_required = true;
  };
  subs = play ∷ search ∷ sweep ∷ script ∷ shrink ∷ log ∷ page ∷ walk ∷ [];
}

-- a value of clap's is this argument, which belongs to its own command alone
pub record IsArgument (rule : Rule) (arg : Arg) : Type 0 where
  pub is : rule_of arg ≡ rule
  pub own : arg.global ≡ false

-- a value of clap's is this subcommand, and each argument is its own
pub record IsCommand (shape : Shape) (made : Command) : Type 0 where
  pub is : shape_of made ≡ shape
  pub own : (fields_of made).has_globals ≡ false

-- ---- the job

-- a value is read as the number: decimal digits, with or without a plus sign before them, below
-- 2^64
abbrev pub IsRead : Text → ℕ → Type 0
IsRead text n =
    (IsNumeral 10 (without_leading_plus text) × (digits_value 10 (without_leading_plus text)
    < 2 ^ 64))
    × (n ≡ digits_value 10 (without_leading_plus text))

abbrev pub HasNumber : Text → List Row → ℕ → Type 0
HasNumber id rows n = (text : Text) × (one_of id rows ≡ Some text) × IsRead text n

-- an option: it has no value, or one that is read as the number
abbrev pub HasOption : Text → List Row → Option ℕ → Type 0
HasOption id rows None = one_of id rows ≡ None
HasOption id rows (Some n) = HasNumber id rows n

abbrev pub HasWord : Text → List Row → Text → Type 0
HasWord id rows text = first_of id rows ≡ Some text

-- an option: it has no value, or this text
abbrev pub HasOptionalWord : Text → List Row → Option (Bor (List ℕ)) → Type 0
HasOptionalWord id rows text = option_map (λ s. s.now) text ≡ first_of id rows

-- a flag is set if its value is `true`, and not if it is `false` or it has none
pub record HasFlag (id : Text) (rows : List Row) (is_set : Bool) : Type 0 where
  pub yes : one_of id rows ≡ Some (codes "true") → is_set ≡ true
  pub no : one_of id rows ≡ Some (codes "false") → is_set ≡ false
  pub none : one_of id rows ≡ None → is_set ≡ false

-- the number of workers, 1 to 16
abbrev pub HasWorkers : List Row → ℕ → Type 0
HasWorkers rows n = HasNumber (codes "workers") rows n × (1 ≤ n) × (n ≤ 16)

pub record HasTeam (rows : List Row) (team : Team) : Type 0 where
  pub workers : HasWorkers rows team.workers
  pub progress : HasFlag (codes "progress") rows team.progress

pub record HasFaultPlan (rows : List Row) (plan : FaultPlan) : Type 0 where
  pub faults : HasOption (codes "faults") rows plan.faults
  pub quiet : HasNumber (codes "quiet") rows plan.quiet

-- the subcommand with its matches makes the job
abbrev pub Asks : Text → List Row → Job → Type 0
Asks name rows (job.Play strict) = (name ≡ codes "play") × HasFlag (codes "strict") rows strict
Asks name rows (job.Search team strict lo hi cond) = (name ≡ codes "search") × HasTeam rows team
    × HasFlag (codes "strict") rows strict × HasNumber (codes "lo") rows lo
    × HasNumber (codes "hi") rows hi × HasWord (codes "cond") rows cond.now
Asks name rows (job.Sweep team plan at_end script strict json first count events cond) =
    (name ≡ codes "sweep") × HasTeam rows team
    × HasFaultPlan rows plan × HasFlag (codes "at-end") rows at_end
    × HasFlag (codes "script") rows script
    × HasFlag (codes "strict") rows strict × HasFlag (codes "json") rows json
    × HasNumber (codes "first") rows first × HasNumber (codes "count") rows count
    × HasNumber (codes "events") rows events × HasWord (codes "cond") rows cond.now
Asks name rows (job.Script plan seed events) = (name ≡ codes "script") × HasFaultPlan rows plan
    × HasNumber (codes "seed") rows seed × HasNumber (codes "events") rows events
Asks name rows (job.Shrink progress cond) = (name ≡ codes "shrink")
    × HasFlag (codes "progress") rows progress × HasWord (codes "cond") rows cond.now
Asks name rows (job.Log from to json) = (name ≡ codes "log") × HasOption (codes "from") rows from
    × HasOption (codes "to") rows to × HasFlag (codes "json") rows json
Asks name rows (job.Page title watch) =
    (name ≡ codes "page") × HasOptionalWord (codes "title") rows title
    × HasOptionalWord (codes "watch") rows watch
Asks name rows job.Walk = name ≡ codes "walk"

-- the job's workers, if it has any, are 1 to 16
abbrev pub HasFewWorkers : Job → Type 0
HasFewWorkers (job.Play _) = ⊤
HasFewWorkers (job.Search team _ _ _ _) = (1 ≤ team.workers) × (team.workers ≤ 16)
HasFewWorkers (job.Sweep team _ _ _ _ _ _ _ _ _) = (1 ≤ team.workers) × (team.workers ≤ 16)
HasFewWorkers (job.Script _ _ _) = ⊤
HasFewWorkers (job.Shrink _ _) = ⊤
HasFewWorkers (job.Log _ _ _) = ⊤
HasFewWorkers (job.Page _ _) = ⊤
HasFewWorkers job.Walk = ⊤

-- The words make the request: clap finds no fault in them, its matches are the job's, and the file
-- is clap's value of the argument, or none if it has no value.
pub record IsRequestOf (words : List Text) (asked : Request) : Type 0 where
  pub sound : fault_of program words ≡ []
  pub name : Text
  pub rows : List Row
  pub entered : subcommand_of program words ≡ Some (name, rows)
  pub asks : Asks name rows asked.job
  pub file : option_map (λ s. s.now) asked.file ≡ first_of (codes "file") rows

-- ---- the faults

-- the words ask for help or the version
abbrev pub AsksText : Kinds → Type 0
AsksText kinds = IsAmong kind.DisplayHelp kinds ⊎ IsAmong kind.DisplayVersion kinds

-- clap finds a mistake
abbrev pub HasMistake : Kinds → Type 0
HasMistake kinds =
    (k : ErrorKind) × IsAmong k kinds × (k ≢ kind.DisplayHelp) × (k ≢ kind.DisplayVersion)

-- Help is for words that ask for it; usage is for words in which clap finds a mistake, or finds
-- none although they make no request, as where a value is no number.
abbrev pub IsFault : List Text → LineError → Type 0
IsFault words (line_fault.Help text) = AsksText (fault_of program words)
IsFault words (line_fault.Usage text) = HasMistake (fault_of program words)
    ⊎ ((fault_of program words ≡ []) × ((asked : Request) → ¬ IsRequestOf words asked))
IsFault words line_fault.NoMemory = ⊤

abbrev pub IsHelp : LineError → Type 0
IsHelp (line_fault.Help text) = ⊤
IsHelp (line_fault.Usage text) = ⊥
IsHelp line_fault.NoMemory = ⊥

abbrev pub IsUsage : LineError → Type 0
IsUsage (line_fault.Help text) = ⊥
IsUsage (line_fault.Usage text) = ⊤
IsUsage line_fault.NoMemory = ⊥
