use Rattle.sim_plan.proofs.Lengths.{all_few}
use Rattle.sim_plan.proofs.Plans.{plans_alike}
use Rattle.sim_plan.proofs.planner.Planner.new.Goals as goal

pub returns-clause-few : goal.returns-clause-few
returns-clause-few c = all_few c.args.scenario.now c.args.plan c.args.given.now _ c.forecast-forecast.ensures.events c.requires.plan

pub returns-clause-alike : goal.returns-clause-alike
returns-clause-alike c = plans_alike c.args.scenario.now c.args.plan
