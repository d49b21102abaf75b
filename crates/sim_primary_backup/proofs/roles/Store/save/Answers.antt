use Rattle.std.proofs.Common.{append_assoc}
use Rattle.sim_primary_backup.proofs.roles.Store.save.Goals as goal

pub returns : goal.returns
returns c =
    rw (c.sync.ensures, c.write-2.ensures, c.bytes.ensures, c.write.ensures, c.to_le_bytes.ensures, append_assoc, append_assoc)
