use Rattle.sim_script.specs.Words.{words}
use Rattle.sim_script.proofs.Grammar.{written_is}
use Rattle.sim_script.proofs.condition.condition_of.Goals as goal

pub returns-clause-written : goal.returns-clause-written
returns-clause-written c = written_is c.args.names.now (words c.args.text.now) c.read_condition.result c.read_condition.ensures
