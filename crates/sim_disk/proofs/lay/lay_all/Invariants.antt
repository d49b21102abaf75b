use Rattle.std.proofs.Common.{◌≡◌, drop}
use Rattle.sim_disk.specs.Disk.{all_laid}
use Rattle.sim_disk.proofs.lay.lay_all.Given as goal

abbrev pub invariant-loop-write : goal.invariant-loop-write
invariant-loop-write l = all_laid l.bytes.items (drop l.write-index l.writes) ≡ all_laid l.fn.bytes.items l.writes
