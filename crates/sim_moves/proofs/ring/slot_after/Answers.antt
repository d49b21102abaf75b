use Rattle.std.proofs.Common.{◌∙◌, arith}
use Rattle.sim_moves.proofs.Circling.{turned_on, turned_over}
use Rattle.sim_moves.proofs.ring.slot_after.Goals as goal

pub returns-then-after-len-clause-turned : goal.returns-then-after-len-clause-turned
returns-then-after-len-clause-turned g c = turned_on c.args.slots.now.items c.args.slot c.requires.inside

pub returns-clause-turned : goal.returns-clause-turned
returns-clause-turned g c =
    c.past_the_last.ensures.turned ∙ turned_over c.args.slots.now.items c.args.slot c.requires.inside (omega (arith, c.if-after-len.false, c.len.ensures))
