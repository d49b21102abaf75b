use Rattle.std.proofs.Common.{◌+◌, ◌*◌, vec_len}
use Rattle.sim_claims.proofs.search.+fn-share-join+arg3+share.Given as goal

abbrev pub decreases-join+arg3 : goal.decreases-join+arg3
decreases-join+arg3 g l = 2 * vec_len l.meters + 1

abbrev pub decreases-share : goal.decreases-share
decreases-share g l = 2 * vec_len l.meters
