use Rattle.std.proofs.Common.{take}
use Rattle.sim_script.specs.Words.{HasNoSpace}
use Rattle.sim_script.proofs.words.word_len.Given as goal

abbrev pub invariant-loop-i : goal.invariant-loop-i
invariant-loop-i l = HasNoSpace (take l.i l.text)
