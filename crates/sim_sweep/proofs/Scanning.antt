-- The scan of one seed of a sweep.
use Rattle.std.proofs.Common.{◌≡◌, ℕ, List, ◌++◌, ap, ◌∙◌}
use Rattle.sim_node.specs.Node.{NodeLaws}
use Rattle.sim_events.specs.declared.Event.{Event}
use Rattle.sim_events.specs.Scenario.{Scenario}
use Rattle.sim_world.specs.Events.{rules, start}
use Rattle.sim_events.specs.Seeds.{numbered}
use Rattle.sim_watch.specs.Condition.{Cond}
use Rattle.sim_plan.specs.declared.plan.Plan.{Plan}
use Rattle.sim_plan.specs.Planned.{planned}
use Rattle.sim_plan.specs.Happening.{happening, planned_run}
use Rattle.sim_sweep.specs.Planned.{failing_of_run, failing_of_planned_seed}

-- the run of the planner is that of the seed
pub scan_is : {State Msg : Type 0} (node : NodeLaws State Msg) (probes : ℕ) (c : Cond) (s t : Scenario) (i : ℕ) (given es : List Event) (plan : Plan)
    → t ≡ numbered i s → es ≡ given ++ planned t plan
    → failing_of_run (rules node probes t) plan.at_end c (happening (rules node probes t) (start (rules node probes t)) es) ≡ failing_of_planned_seed node probes s given plan c i
scan_is node probes c s t i given es plan is all =
    ap (λ (x : List Event). failing_of_run (rules node probes t) plan.at_end c (happening (rules node probes t) (start (rules node probes t)) x)) all
    ∙ ap (λ (x : Scenario). failing_of_run (rules node probes x) plan.at_end c (planned_run node probes x given plan)) is
