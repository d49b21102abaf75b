use Rattle.std.proofs.Common.{rules}
use Rattle.sim_claims.proofs.Draws.{folds}
use Rattle.sim_claims.proofs.claims.Claims.together.Goals as goal

pub join_seat-requires : goal.join_seat-requires
join_seat-requires c = (c.requires.of.0, c.requires.of.1, c.requires.bare, search rules, folds _ _ _ _ _ _)
