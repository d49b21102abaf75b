-- The run of a seed as an input for a play.
use Rattle.std.specs.Prelude.{◌≡◌, false, List, [], Ok}
use Rattle.std.specs.Prelude.{string_bytes}
use Rattle.sim_events.specs.declared.Event.{Event}
use Rattle.sim_world.specs.Events.{Rules}
use Rattle.sim_events.specs.Seeds.{numbered}
use Rattle.sim_plan.specs.declared.plan.Plan.{Plan}
use Rattle.sim_plan.specs.Happening.{IsPlan, plan_with, planned_run}
use Rattle.sim_scenario.specs.Scenario.{Protocol, ScenarioText}
use Rattle.sim_script.specs.Script.{Text, Names}
use Rattle.sim_reseed.specs.Numbered.{numbered as numbered_scenario}
use Rattle.sim_cli.specs.Play.{read_scenario}
use Rattle.sim_repro.specs.declared.seed_run.SeedRun.{SeedRun}
use Rattle.sim_export.specs.declared.export.Export.{Export}
use Rattle.sim_export.specs.declared.export.Export.TheVariants.{Input, Shown, Nowhere, BadRange}
use Rattle.sim_export.specs.declared.export.Export.TheVariants.{BadCondition, BadScript, NoInput}
use Rattle.sim_export.specs.Exports.{IsInput, Right}

abbrev pub plan_of : SeedRun → Plan
plan_of run = plan_with run.faults run.events run.quiet false

module _ {State Msg : Type 0} (r : Rules State Msg) where
  -- the events of the run
  abbrev pub events_of : SeedRun → List Event
  events_of run = planned_run r.node r.probes (numbered run.seed r.scenario) [] (plan_of run)

  -- The export of a run is right: an input that makes its events in the scenario of its seed, if
  -- the numbers are within the limits.
  abbrev pub IsExportOf : SeedRun → Names → Text → Text → Export → Type 0
  IsExportOf run names text script (Input input) = IsPlan 0 (plan_of run)
      × ((protocols : List Protocol) (said : ScenarioText) → read_scenario protocols text ≡ Ok said
      → IsInput protocols (numbered_scenario run.seed said) names (events_of run)
      (string_bytes input))
  IsExportOf run names text script (Shown shown) = ⊥
  IsExportOf run names text script Nowhere = ⊥
  IsExportOf run names text script BadRange = ¬ (IsPlan 0 (plan_of run))
  IsExportOf run names text script BadCondition = ⊥
  IsExportOf run names text script BadScript = ⊥
  IsExportOf run names text script NoInput = IsPlan 0 (plan_of run)

-- the exports of a run, over the nodes of any scenario
abbrev pub seed_run_right : SeedRun → Right
seed_run_right run State Msg r names text script e = IsExportOf r run names text script e
