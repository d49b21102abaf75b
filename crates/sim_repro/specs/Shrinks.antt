-- The failing run of a script, without the faults it does not need, as an input for a play.
use Rattle.std.specs.Prelude.{◌≡◌, Bool, true, false, List, length, Option, None, Some, Ok}
use Rattle.std.specs.Prelude.{string_bytes}
use Rattle.sim_events.specs.declared.Event.{Event}
use Rattle.sim_world.specs.Events.{Rules}
use Rattle.sim_watch.specs.Condition.{Cond}
use Rattle.sim_search.specs.declared.SearchFault.TheVariants as fault
use Rattle.sim_shrink.specs.Shrunk.{IsShrunk, failing, shrink_fault}
use Rattle.sim_scenario.specs.Scenario.{Protocol, ScenarioText}
use Rattle.sim_script.specs.Script.{Text, Names, words}
use Rattle.sim_script.specs.Conditions.{condition}
use Rattle.std.specs.Str.Lines.{lines}
use Rattle.sim_cli.specs.Turns.{beginning}
use Rattle.sim_cli.specs.Play.{read_scenario}
use Rattle.sim_cli.specs.Strict.{are_well}
use Rattle.sim_cli.specs.Played.{first_events}
use Rattle.sim_export.specs.declared.export.Export.{Export}
use Rattle.sim_export.specs.declared.export.Export.TheVariants.{Input, Shown, Nowhere, BadRange}
use Rattle.sim_export.specs.declared.export.Export.TheVariants.{BadCondition, BadScript, NoInput}
use Rattle.sim_export.specs.Exports.{IsInput, Right}

module _ {State Msg : Type 0} (r : Rules State Msg) (names : Names) (scenario : Text)
    (events : List Event) where
  -- The export is right for a condition: an input that makes the run without the faults that its
  -- failure does not need, in the same scenario.
  abbrev pub IsShrinkOf : Cond → Export → Type 0
  IsShrinkOf c (Input input) = (run : List Event) × IsShrunk r c events run
      × ((protocols : List Protocol) (said : ScenarioText) → read_scenario protocols scenario
      ≡ Ok said
      → IsInput protocols said names run (string_bytes input))
  IsShrinkOf c (Shown text) = ⊥
  IsShrinkOf c Nowhere = failing r c events ≡ None
  IsShrinkOf c BadRange =
      shrink_fault (length events) r.scenario.setup.hosts r.probes c ≡ Some fault.BadRange
  IsShrinkOf c BadCondition =
      shrink_fault (length events) r.scenario.setup.hosts r.probes c ≡ Some fault.BadCondition
  IsShrinkOf c BadScript = ⊥
  IsShrinkOf c NoInput = (run : List Event) × IsShrunk r c events run

  -- the same if no line of the script is at fault, else a bad script
  abbrev pub IsShrinkIf : Bool → Cond → Export → Type 0
  IsShrinkIf true c e = IsShrinkOf c e
  IsShrinkIf false c e = e ≡ BadScript

  -- the same if the words are read as a condition, else a bad condition
  abbrev pub IsShrinkFor : Bool → Option Cond → Export → Type 0
  IsShrinkFor well None e = e ≡ BadCondition
  IsShrinkFor well (Some c) e = IsShrinkIf well c e

-- the exports of the run that a script leaves, for the words of a condition
abbrev pub shrink_right : Text → Right
shrink_right cond State Msg r names scenario script e =
    IsShrinkFor r names scenario (first_events r names script)
    (are_well r names beginning (lines script)) (condition names (words cond)) e
