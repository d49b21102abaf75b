use Rattle.std.proofs.Common.{rules}
use Rattle.sim_claims.proofs.Draws.{draws}
use Rattle.sim_claims.proofs.claims.Claims.claim.Goals as goal

pub fetch_add-requires : goal.fetch_add-requires
fetch_add-requires c = (c.requires.of, search rules, draws _ _ _ _ c.args.worker.now.me c.requires.turn)
