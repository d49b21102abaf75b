use Rattle.sim_sweep.proofs.Refusals.{refused_is}
use Rattle.sim_sweep.proofs.seeds.is_bad.Goals as goal

pub returns-clause-value : goal.returns-clause-value
returns-clause-value c = refused_is c.is_within.result c.args.given c.args.plan c.is_within.ensures
