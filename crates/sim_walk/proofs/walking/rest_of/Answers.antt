use Rattle.sim_lines.proofs.Spending.{less_byte, nothing_spent}
use Rattle.sim_walk.proofs.walking.rest_of.Goals as goal

pub loop-byte-smaller : goal.loop-byte-smaller
loop-byte-smaller g c = less_byte _ _ _ _ (nothing_spent _) c.in-Byte.ensures.spends
