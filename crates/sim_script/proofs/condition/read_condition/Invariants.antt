use Rattle.sim_script.specs.Words.{words}
use Rattle.sim_script.proofs.Joining.{Taken}
use Rattle.sim_script.proofs.condition.read_condition.Given as goal

abbrev pub invariant-loop-turn : goal.invariant-loop-turn
invariant-loop-turn l = Taken l.names (words l.text) l.cond l.begins l.turn (words l.rest)
