use Rattle.std.proofs.Common.{◌≡◌, ◌++◌, take}
use Rattle.sim_disk.proofs.lay.append_all.Given as goal

abbrev pub invariant-loop-write : goal.invariant-loop-write
invariant-loop-write l = l.all.items ≡ l.initial.all.items ++ take l.write-index l.writes
