use Rattle.std.proofs.Common.{◌≡◌, vec_len}
use Rattle.sim_hunt.proofs.hunting.meters.Given as goal

abbrev pub invariant-loop-worker : goal.invariant-loop-worker
invariant-loop-worker g l = vec_len l.meters ≡ l._worker
