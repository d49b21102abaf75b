use Rattle.std.specs.Slots.{slots_items}
use Rattle.sim_claims.proofs.Draws.{knows_all}
use Rattle.sim_claims.proofs.claims.Claims.close.Goals as goal

pub returns : goal.returns
returns c =
    knows_all c.args.self.table.shared.key.pieces c.args.self.table.shared.key.workers c.args.worker.id c.args.worker.me.0 (slots_items c.close_with-closed.result.words) (slots_items c.close_with-closed.result.slots) c.close_with-closed.ensures.values.2 c.requires.all
