use Rattle.std.proofs.Common.{◌-◌, arith, length}
use Rattle.sim_queue.proofs.Skipping.{two_none, two_told}
use Rattle.sim_queue.proofs.link.are_none_of_two.Goals as goal

pub returns-clause-none : goal.returns-clause-none
returns-clause-none c = two_none c.args.links.now c.are_none.result c.are_none-2.result (length c.args.links.now - 8) (omega arith) c.are_none.ensures.none c.are_none-2.ensures.none

pub returns-clause-some : goal.returns-clause-some
returns-clause-some c = two_told c.args.links.now c.are_none.result c.are_none-2.result (length c.args.links.now - 8) (omega arith) c.are_none.ensures.some c.are_none-2.ensures.some
