use Rattle.std.proofs.Common.{sym}
use Rattle.sim_world.proofs.FirstDue.{within_reach, reach_none}
use Rattle.sim_world.proofs.views.can_go_on.Goals as goal

pub returns-in-None : goal.returns-in-None
returns-in-None g c = reach_none c.args.clock c.args.to c.args.queue.now.items c.if-to-clock.false c.if-to-clock-gt-MAX_ADVANCE.false (sym c.in-None.ensures)

pub returns-in-Some : goal.returns-in-Some
returns-in-Some g c = within_reach c.args.clock c.args.to c.args.queue.now.items _ c.if-to-clock.false c.if-to-clock-gt-MAX_ADVANCE.false (sym c.in-Some.ensures)
