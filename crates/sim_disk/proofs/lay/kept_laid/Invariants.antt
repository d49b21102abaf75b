use Rattle.std.proofs.Common.{◌≡◌, drop}
use Rattle.sim_disk.specs.Disk.{all_laid, all_kept}
use Rattle.sim_disk.proofs.lay.kept_laid.Given as goal

abbrev pub invariant-loop-i : goal.invariant-loop-i
invariant-loop-i l = all_laid l.bytes.items (all_kept (drop l.i l.words) (drop l.i l.writes)) ≡ all_laid l.over (all_kept l.words l.writes)
