use Rattle.std.proofs.Common.{◌≡◌, length, subst, IfOk}
use Rattle.sim_plan.specs.declared.plan.Plan.{Plan}
use Rattle.sim_sweep.specs.Faults.{planned_sweep_fault}
use Rattle.sim_sweep.specs.Planned.{first_failing_planned_seed}
use Rattle.sim_hunt.specs.Answers.{at_seed}
use Rattle.sim_hunt.specs.Hunts.{answer_by, plan_of}
use Rattle.sim_hunt.proofs.Finds.{told_by}
use Rattle.sim_hunt.proofs.planned.sweep_runs.Goals as goal

pub returns : goal.returns
returns g c =
    let runs = c.args.runs.now in
    let given = c.args.given.now in
    let cond = c.args.quest.now.cond in
    let s = c.args.quest.now.opened.now.scenario in
    let laws = g.N.Node.laws in
    let probes = g.N.Node.PROBES in
    let plan = c.in-Some.plan in
    subst (λ (p : Plan). IfOk c.of_sweep.result (λ a. a ≡ answer_by (planned_sweep_fault runs.first runs.count (length given) p s.setup.hosts probes cond)
    (at_seed (first_failing_planned_seed laws probes s given p cond runs.first runs.count)))) {y = plan_of runs} c.in-Some.ensures.some
    (told_by at_seed c.sweep_planned.result c.of_sweep.result (planned_sweep_fault runs.first runs.count (length given) plan s.setup.hosts probes cond)
    (first_failing_planned_seed laws probes s given plan cond runs.first runs.count) c.sweep_planned.ensures.found c.sweep_planned.ensures.allowed c.sweep_planned.ensures.refused c.of_sweep.ensures.told)
