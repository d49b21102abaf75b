use Rattle.sim_plan.proofs.Plans.{quiet_step}
use Rattle.sim_plan.proofs.forecast.Forecast.next_quiet.Goals as goal

pub returns-in-Nothing-clause-event : goal.returns-in-Nothing-clause-event
returns-in-Nothing-clause-event c = quiet_step c.args.self.now c.requires.none c.in-Nothing.is c.if-self-eq0.false
