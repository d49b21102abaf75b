use Rattle.sim_script.proofs.Numbers.{Digits}
use Rattle.sim_script.proofs.words.parse_number.Given as goal

abbrev pub invariant-loop-b : goal.invariant-loop-b
invariant-loop-b l = Digits l.word l.value l.b-index
