use Rattle.std.proofs.Common.{◌≡◌, [], List, Ok, subst, string_bytes}
use Rattle.sim_events.specs.Seeds.{numbered}
use Rattle.sim_plan.specs.declared.plan.Plan.{Plan}
use Rattle.sim_plan.specs.Happening.{IsPlan, planned_run}
use Rattle.sim_scenario.specs.Scenario.{Protocol, ScenarioText}
use Rattle.sim_reseed.specs.Numbered.{numbered as numbered_scenario}
use Rattle.sim_cli.specs.Play.{read_scenario}
use Rattle.sim_export.specs.Exports.{IsInput}
use Rattle.sim_repro.proofs.seed_run.export_of.Goals as goal

pub returns-in-Ok : goal.returns-in-Ok
returns-in-Ok g c = λ script.
    let run = c.args.run in
    subst (λ (p : Plan). IsPlan 0 p × ((protocols : List Protocol) (said : ScenarioText) → read_scenario protocols c.args.text.now ≡ Ok said
    → IsInput protocols (numbered_scenario run.seed said) c.args.opened.now.names
    (planned_run g.N.Node.laws g.N.Node.PROBES (numbered run.seed c.args.opened.now.scenario) [] p) (string_bytes c.in-Ok.input)))
    c.in-Some.ensures.some (c.is_within.ensures.0 c.if-not-is_within.false, c.in-Ok.ensures)
