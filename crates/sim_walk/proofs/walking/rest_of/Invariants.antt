use Rattle.sim_lines.specs.Waiting.{budget}
use Rattle.sim_walk.proofs.walking.rest_of.Given as goal

-- fewer bytes can come
abbrev pub decreases-loop-byte : goal.decreases-loop-byte
decreases-loop-byte g l = budget l.ahead
