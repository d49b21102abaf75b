-- The run that a script leaves on the first branch.
use Rattle.std.specs.Prelude.{◌≡◌, Bool, true, List, [], if◌then◌else◌, ⊤}
use Rattle.std.specs.Str.Lines.{lines}
use Rattle.sim_events.specs.declared.Event.{Event}
use Rattle.sim_world.specs.Events.{Rules}
use Rattle.sim_book.specs.Book.{branch}
use Rattle.sim_script.specs.Script.{Text, Names}
use Rattle.sim_cli.specs.Turns.{beginning}
use Rattle.sim_cli.specs.Play.{end_from}
use Rattle.sim_cli.specs.Strict.{IsFirstFault, are_well}
use Rattle.sim_cli.specs.declared.stop.ScriptStop.{ScriptStop}
use Rattle.sim_cli.specs.declared.stop.ScriptStop.TheVariants.{Ended, Fault}

module _ {State Msg : Type 0} (r : Rules State Msg) where
  -- all kept events of the first branch that a script leaves
  abbrev pub first_events : Names → Text → List Event
  first_events names script = (branch 0 (end_from r names beginning (lines script)).branches).events

  -- the events that begin each planned run: those that the script leaves if `with_script`, else
  -- none
  abbrev pub given_events : Bool → Names → Text → List Event
  given_events with_script names script = if with_script then first_events names script else []

  -- no line of a script is at fault, if the script is strict
  abbrev pub IsWellIf : Bool → Names → Text → Type 0
  IsWellIf strict names script =
      strict ≡ true → are_well r names beginning (lines script) ≡ true

  -- in a strict script this line is the first at fault, or the run ended for another reason
  abbrev pub IsFault : Bool → Names → Text → ScriptStop → Type 0
  IsFault strict names script (Ended ended) = ⊤
  IsFault strict names script (Fault fault) =
      (strict ≡ true) × IsFirstFault r names beginning (lines script) fault
