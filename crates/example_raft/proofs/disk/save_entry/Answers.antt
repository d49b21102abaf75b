use Rattle.std.proofs.Common.{append_assoc}
use Rattle.example_raft.proofs.disk.save_entry.Goals as goal

pub returns : goal.returns
returns c = rw (c.sync.ensures, c.write.ensures, c.entry_bytes-bytes.ensures, c.term_of.ensures, append_assoc c.args.effects.now.list _ _)
