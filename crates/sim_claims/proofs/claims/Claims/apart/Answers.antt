use Rattle.std.proofs.Common.{rules}
use Rattle.sim_claims.proofs.Draws.{parts_off}
use Rattle.sim_claims.proofs.claims.Claims.apart.Goals as goal

pub split_seat-requires : goal.split_seat-requires
split_seat-requires c = (c.requires.of, search rules, parts_off _ _ _ _ c.requires.parts c.requires.few)
