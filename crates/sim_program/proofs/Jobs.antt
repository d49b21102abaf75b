-- The output of a job, under another name of the job.
use Rattle.std.proofs.Common.{◌≡◌, List, Option, sym, subst}
use Rattle.sim_scenario.specs.Scenario.{Protocol, ScenarioText}
use Rattle.sim_script.specs.Script.{Text}
use Rattle.sim_job.specs.declared.wanted.Job.{Job}
use Rattle.sim_cli.specs.declared.status.Status.{Status}
use Rattle.sim_cli.specs.Play.{Nodes, Ended}
use Rattle.sim_program.specs.Jobs.{Performed}

module _ (protocols : List Protocol) (nodes_of : ScenarioText → Nodes) where
  pub as_job : (job asked : Job) (given : Text) (left held holds : Option Text) (ended : Status) → job ≡ asked
      → Ended held holds (Performed protocols nodes_of asked given left ended) → Ended held holds (Performed protocols nodes_of job given left ended)
  as_job job asked given left held holds ended same p = subst (λ (j : Job). Ended held holds (Performed protocols nodes_of j given left ended)) (sym same) p
