use Rattle.sim_lines.proofs.Counting.{counts_none}
use Rattle.sim_lines.proofs.reading.next_byte.Goals as goal

pub returns-in-Some-clause-counts : goal.returns-in-Some-clause-counts
returns-in-Some-clause-counts g c = counts_none _ _ _ c.take_first.ensures.reads
