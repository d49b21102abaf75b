use Rattle.std.proofs.Common.{◌-◌, arith}
use Rattle.sim_runs.proofs.Looking.{stretch_whole}
use Rattle.sim_runs.proofs.rewinds.stretch_below.Goals as goal

pub returns-clause-whole : goal.returns-clause-whole
returns-clause-whole c =
    stretch_whole c.args.to (c.args.high - 1) c.args.interval c.max.result c.requires.some (omega arith) c.max.ensures
