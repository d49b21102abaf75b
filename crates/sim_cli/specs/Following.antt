-- What a script leaves when its answers are not written.
use Rattle.std.specs.Prelude.{◌≡◌, ◌++◌, ◌-◌, ◌^◌, ℕ, Bool, true, List, Option, Some, Result, Ok}
use Rattle.std.specs.Prelude.{Err, ⊤, length, min}
use Rattle.std.specs.Str.Lines.{lines}
use Rattle.sim_world.specs.Events.{Rules}
use Rattle.sim_script.specs.declared.script.ScriptLine.{ScriptLine}
use Rattle.sim_script.specs.Script.{Text, Names}
use Rattle.sim_cli.specs.declared.status.Status.TheVariants as status
use Rattle.sim_cli.specs.Turns.{Course}
use Rattle.sim_cli.specs.Play.{end_from, plain_next}
use Rattle.sim_cli.specs.Statuses.{Stops}
use Rattle.sim_cli.specs.Strict.{Explains, IsFirstFault, are_well, is_well}
use Rattle.sim_cli.specs.declared.stop.LineStop.{LineStop}
use Rattle.sim_cli.specs.declared.stop.LineStop.TheVariants as line
use Rattle.sim_cli.specs.declared.stop.ScriptStop.{ScriptStop}
use Rattle.sim_cli.specs.declared.stop.ScriptStop.TheVariants as whole

-- the script ends without an answer, or a line is at fault
abbrev pub StopsScript : ScriptStop → Type 0
StopsScript (whole.Ended ended) = Stops ended
StopsScript (whole.Fault fault) = ⊤

-- a line with this number ends its script; `text` is what is kept of it
abbrev pub StopsAt : LineStop → ℕ → Text → ScriptStop → Type 0
StopsAt (line.Fault why) number text (whole.Fault f) =
    (f.number ≡ number) × (f.text.items ≡ text) × (f.why ≡ why)
StopsAt (line.Fault why) number text (whole.Ended ended) = ⊥
StopsAt line.MemoryWanted number text (whole.Fault f) = ⊥
StopsAt line.MemoryWanted number text (whole.Ended ended) = ended ≡ status.MemoryWanted

module _ {State Msg : Type 0} (r : Rules State Msg) (names : Names) (strict : Bool) where
  -- The course after a line, which is not at fault if the script is strict; or why the line is at
  -- fault.
  abbrev pub FollowsLine : {T : Type 0} → Course → Course → ScriptLine → Result T LineStop → Type 0
  FollowsLine old new asked (Ok _) = (new ≡ plain_next r names old asked)
      × (strict ≡ true → is_well r names old asked ≡ true)
  FollowsLine old new asked (Err (line.Fault why)) =
      (strict ≡ true) × Explains r names old asked why
  FollowsLine old new asked (Err line.MemoryWanted) = ⊤

  -- The course after the lines of a script, none of which is at fault if the script is strict; or
  -- the first line at fault.
  abbrev pub Follows : {T : Type 0} → Course → Course → List Text → Result T ScriptStop → Type 0
  Follows old new ls (Ok _) = (new ≡ end_from r names old ls)
      × (strict ≡ true → are_well r names old ls ≡ true)
  Follows old new ls (Err (whole.Fault f)) = (strict ≡ true) × IsFirstFault r names old ls f
  Follows old new ls (Err (whole.Ended ended)) = ⊤

-- The lines of a script up to here lead from one course to another, and were counted. None is at
-- fault if the script is strict. The rest of the script is still to be read.
pub record Followed {State Msg : Type 0} (r : Rules State Msg) (names : Names) (strict : Bool)
    (start : Course) (script : Text)
    (here : Course) (left : Option Text) (number : ℕ) : Type 0 where
  pub done : List Text
  pub rest : Text
  pub is_left : left ≡ Some rest
  pub cut : lines script ≡ done ++ lines rest
  pub at : here ≡ end_from r names start done
  pub well : strict ≡ true → are_well r names start done ≡ true
  pub count : number ≡ min (length done) (2 ^ 64 - 1)
