use Rattle.sim_lines.specs.Waiting.{budget}
use Rattle.sim_walk.specs.Growth.{Grows}
use Rattle.sim_walk.proofs.walking.walk_lines.Given as goal

-- what was written so far was added
abbrev pub invariant-loop-status : goal.invariant-loop-status
invariant-loop-status g l = Grows (g.W.Write.contents l.fn.writer) (g.W.Write.contents l.writer)

-- fewer bytes can come
abbrev pub decreases-loop-status : goal.decreases-loop-status
decreases-loop-status g l = budget l.ahead
