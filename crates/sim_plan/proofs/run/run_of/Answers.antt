use Rattle.std.proofs.Common.{◌≡◌, IfOk, List, subst}
use Rattle.sim_events.specs.declared.Event.{Event}
use Rattle.sim_world.specs.Events.{rules, start}
use Rattle.sim_plan.specs.Happening.{happening}
use Rattle.sim_plan.proofs.run.run_of.Goals as goal

pub returns : goal.returns
returns g c =
    let r = rules g.N.Node.laws g.N.Node.PROBES c.args.scenario.now in
    subst (λ (es : List Event). IfOk c.run_of_planner.result (λ run. run.items ≡ happening r (start r) es)) c.new-planner.ensures.events c.run_of_planner.ensures
