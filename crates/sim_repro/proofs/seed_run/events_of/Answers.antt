use Rattle.std.proofs.Common.{◌∙◌, ap, []}
use Rattle.std.proofs.lemmas.Result.{IfOk-weaker}
use Rattle.sim_events.specs.Scenario.{Scenario}
use Rattle.sim_plan.specs.Happening.{planned_run}
use Rattle.sim_repro.proofs.seed_run.events_of.Goals as goal

pub returns : goal.returns
returns g c = IfOk-weaker c.run_of.result _ _
    (λ run is. is ∙ ap (λ (s : Scenario). planned_run g.N.Node.laws g.N.Node.PROBES s [] c.args.plan) c.numbered-scenario.ensures)
    c.run_of.ensures
