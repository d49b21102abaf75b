-- The log of the run that a script leaves.
use Rattle.std.specs.Prelude.{◌≡◌, ℕ, ◌+◌, ◌-◌, Bool, true, false, List, length, unwrap_or}
use Rattle.std.specs.Str.Lines.{lines}
use Rattle.sim_events.specs.declared.Event.{Event}
use Rattle.sim_world.specs.Events.{Rules}
use Rattle.sim_cli.specs.Turns.{beginning}
use Rattle.sim_cli.specs.Strict.{are_well}
use Rattle.sim_cli.specs.Played.{first_events}
use Rattle.sim_export.specs.declared.export.Export.{Export}
use Rattle.sim_export.specs.declared.export.Export.TheVariants.{Input, Shown, Nowhere, BadRange}
use Rattle.sim_export.specs.declared.export.Export.TheVariants.{BadCondition, BadScript, NoInput}
use Rattle.sim_export.specs.Exports.{Right}
use Rattle.sim_page.specs.declared.log.LogRange.{LogRange}
use Rattle.sim_log.specs.Lines.{AreLines}
use Rattle.sim_log.specs.Range.{IsRange}

module _ {State Msg : Type 0} (r : Rules State Msg) (events : List Event) (range : LogRange) where
  abbrev pub first : ℕ
  first = unwrap_or range.from 1

  abbrev pub last : ℕ
  last = unwrap_or range.to (length events)

  -- The log has the lines of the requested events. Or it reports a bad range: the run lacks one, or
  -- the range is out of order.
  abbrev pub IsLogOf : Export → Type 0
  IsLogOf (Shown log) = IsRange first last (length events)
      × AreLines r events range.json first (last + 1 - first) log.items
  IsLogOf BadRange = ¬ (IsRange first last (length events))
  IsLogOf (Input text) = ⊥
  IsLogOf Nowhere = ⊥
  IsLogOf BadCondition = ⊥
  IsLogOf BadScript = ⊥
  IsLogOf NoInput = ⊥

  -- the same if no line of the script is at fault, else a bad script
  abbrev pub IsLogIf : Bool → Export → Type 0
  IsLogIf true e = IsLogOf e
  IsLogIf false e = e ≡ BadScript

-- the log that is right for a script and a range of events
abbrev pub log_right : LogRange → Right
log_right range State Msg r names scenario script e =
    IsLogIf r (first_events r names script) range (are_well r names beginning (lines script)) e
