-- The output of a job, and its status.
use Rattle.std.specs.Prelude.{◌≡◌, ℕ, Bool, true, false, List, [], Option}
use Rattle.std.specs.Borrow.{Bor}
use Rattle.sim_scenario.specs.Scenario.{Protocol, ScenarioText}
use Rattle.sim_script.specs.Script.{Text}
use Rattle.sim_job.specs.declared.wanted.Job.{Job}
use Rattle.sim_job.specs.declared.wanted.Job.TheVariants as jobs
use Rattle.sim_job.specs.declared.wanted.FaultPlan.{FaultPlan}
use Rattle.sim_cli.specs.declared.status.Status.{Status}
use Rattle.sim_cli.specs.declared.status.Status.TheVariants.{BadRequest}
use Rattle.sim_cli.specs.Play.{Nodes, Played}
use Rattle.sim_cli.specs.Strict.{PlayedStrictly}
use Rattle.sim_repro.specs.declared.seed_run.SeedRun.{SeedRun}
use Rattle.sim_repro.specs.SeedRuns.{seed_run_right}
use Rattle.sim_repro.specs.Shrinks.{shrink_right}
use Rattle.sim_export.specs.Exports.{Written}
use Rattle.sim_page.specs.declared.log.LogRange.{LogRange}
use Rattle.sim_page.specs.declared.paging.PageRequest.{PageRequest}
use Rattle.sim_page.specs.Logs.{log_right}
use Rattle.sim_page.specs.Pages.{page_right}
use Rattle.sim_hunt.specs.declared.answer.Form.TheVariants.{Words}
use Rattle.sim_hunt.specs.declared.hunting.Area.TheVariants.{Places}
use Rattle.sim_hunt.specs.Hunts.{area_of, planned_runs}
use Rattle.sim_hunt.specs.Outcomes.{Hunted, form_of}

abbrev pub seed_run : FaultPlan → ℕ → ℕ → SeedRun
seed_run plan seed events =
    record { seed = seed; events = events; faults = plan.faults; quiet = plan.quiet }

abbrev pub log_range : Option ℕ → Option ℕ → Bool → LogRange
log_range from to json = record { from = from; to = to; json = json }

abbrev pub page_request : Option (Bor Text) → Option (Bor Text) → PageRequest
page_request title watch = record { title = title; watch = watch }

-- A scenario names one of these protocols, and determines the nodes of a run.
module _ (protocols : List Protocol) (nodes_of : ScenarioText → Nodes) where
  -- the output of a play, strict or not
  abbrev pub PlayedBy : Bool → Text → Option Text → Status → Text → Type 0
  PlayedBy false given left ended written = Played protocols nodes_of given left ended written
  PlayedBy true given left ended written =
      PlayedStrictly protocols nodes_of given left ended written

  -- the output of a job for an input, and what is left of it, by its status
  abbrev pub Performed : Job → Text → Option Text → Status → Text → Type 0
  Performed (jobs.Play strict) given left ended written =
      PlayedBy strict given left ended written
  Performed (jobs.Search team strict lo hi cond) given left ended written =
      Hunted protocols nodes_of Words (Places lo hi strict) cond.now given ended written
  Performed (jobs.Sweep team plan at_end script strict json first count events cond) given left
      ended written = Hunted protocols nodes_of (form_of json first count events)
      (area_of (planned_runs plan at_end script strict first count events)) cond.now given ended
      written
  Performed (jobs.Script plan seed events) given left ended written =
      Written (seed_run_right (seed_run plan seed events)) protocols nodes_of given ended written
  Performed (jobs.Shrink progress cond) given left ended written =
      Written (shrink_right cond.now) protocols nodes_of given ended written
  Performed (jobs.Log from to json) given left ended written =
      Written (log_right (log_range from to json)) protocols nodes_of given ended written
  Performed (jobs.Page title watch) given left ended written =
      Written (page_right (page_request title watch)) protocols nodes_of given ended written
  Performed jobs.Walk given left ended written = (ended ≡ BadRequest) × (written ≡ [])
