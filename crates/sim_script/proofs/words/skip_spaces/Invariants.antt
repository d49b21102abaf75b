use Rattle.std.proofs.Common.{◌≡◌, length}
use Rattle.sim_script.specs.Words.{words}
use Rattle.sim_script.proofs.words.skip_spaces.Given as goal

abbrev pub invariant-loop-rest : goal.invariant-loop-rest
invariant-loop-rest l = words l.rest ≡ words l.fn.text

abbrev pub decreases-loop-rest : goal.decreases-loop-rest
decreases-loop-rest l = length l.rest
