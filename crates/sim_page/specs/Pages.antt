-- The page of the run that a script leaves.
use Rattle.std.specs.Prelude.{◌≡◌, Bool, true, false, List, ℕ, Option, IsSome}
use Rattle.std.specs.Str.Lines.{lines}
use Rattle.std.specs.Borrow.{Bor}
use Rattle.sim_cli.specs.Turns.{beginning}
use Rattle.sim_cli.specs.Strict.{are_well}
use Rattle.sim_export.specs.declared.export.Export.{Export}
use Rattle.sim_export.specs.declared.export.Export.TheVariants.{Input, Shown, Nowhere, BadRange}
use Rattle.sim_export.specs.declared.export.Export.TheVariants.{BadCondition, BadScript, NoInput}
use Rattle.sim_export.specs.Exports.{Right}
use Rattle.sim_page.specs.declared.paging.PageRequest.{PageRequest}

-- A page is written only if no line of the script is at fault. A bad condition is reported only if
-- conditions were given
abbrev pub IsPageIf : Bool → Option (Bor (List ℕ)) → Export → Type 0
IsPageIf well watch (Shown page) = well ≡ true
IsPageIf well watch BadCondition = IsSome watch
IsPageIf well watch BadScript = well ≡ false
IsPageIf well watch (Input text) = ⊥
IsPageIf well watch Nowhere = ⊥
IsPageIf well watch BadRange = ⊥
IsPageIf well watch NoInput = ⊥

-- the page that is right for a script
abbrev pub page_right : PageRequest → Right
page_right asked State Msg r names scenario script e =
    IsPageIf (are_well r names beginning (lines script)) asked.watch e
