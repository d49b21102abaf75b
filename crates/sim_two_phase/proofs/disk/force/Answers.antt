use Rattle.std.proofs.Common.{append_assoc}
use Rattle.sim_two_phase.proofs.disk.force.Goals as goal

pub returns : goal.returns
returns c = rw (c.sync.ensures, c.write.ensures, c.server_bytes.ensures, append_assoc)
