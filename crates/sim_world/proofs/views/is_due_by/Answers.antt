use Rattle.std.proofs.Common.{sym}
use Rattle.sim_world.proofs.FirstDue.{first_by, none_by}
use Rattle.sim_world.proofs.views.is_due_by.Goals as goal

pub returns-in-None : goal.returns-in-None
returns-in-None g c = none_by c.args.time c.args.queue.now.items (sym c.in-None.ensures)

pub returns-in-Some : goal.returns-in-Some
returns-in-Some g c = first_by c.args.time c.args.queue.now.items _ (sym c.in-Some.ensures)
