use Rattle.std.proofs.Common.{arith}
use Rattle.sim_queue.proofs.Skipping.{there, eight_none, all_told}
use Rattle.sim_queue.proofs.link.are_none.Goals as goal

pub returns-clause-none : goal.returns-clause-none
returns-clause-none c =
    eight_none c.args.links.now c.is_none.result c.is_none-2.result c.is_none-3.result c.is_none-4.result c.is_none-5.result c.is_none-6.result c.is_none-7.result c.is_none-8.result
    (there c.args.links.now 0 c.index-links-0.result c.is_none.result (omega arith) c.index-links-0.is c.is_none.ensures)
    (there c.args.links.now 1 c.index-links-1.result c.is_none-2.result (omega arith) c.index-links-1.is c.is_none-2.ensures)
    (there c.args.links.now 2 c.index-links-2.result c.is_none-3.result (omega arith) c.index-links-2.is c.is_none-3.ensures)
    (there c.args.links.now 3 c.index-links-3.result c.is_none-4.result (omega arith) c.index-links-3.is c.is_none-4.ensures)
    (there c.args.links.now 4 c.index-links-4.result c.is_none-5.result (omega arith) c.index-links-4.is c.is_none-5.ensures)
    (there c.args.links.now 5 c.index-links-5.result c.is_none-6.result (omega arith) c.index-links-5.is c.is_none-6.ensures)
    (there c.args.links.now 6 c.index-links-6.result c.is_none-7.result (omega arith) c.index-links-6.is c.is_none-7.ensures)
    (there c.args.links.now 7 c.index-links-7.result c.is_none-8.result (omega arith) c.index-links-7.is c.is_none-8.ensures)

pub returns-clause-some : goal.returns-clause-some
returns-clause-some c =
    all_told c.args.links.now c.is_none.result c.is_none-2.result c.is_none-3.result c.is_none-4.result c.is_none-5.result c.is_none-6.result c.is_none-7.result c.is_none-8.result
    (there c.args.links.now 0 c.index-links-0.result c.is_none.result (omega arith) c.index-links-0.is c.is_none.ensures)
    (there c.args.links.now 1 c.index-links-1.result c.is_none-2.result (omega arith) c.index-links-1.is c.is_none-2.ensures)
    (there c.args.links.now 2 c.index-links-2.result c.is_none-3.result (omega arith) c.index-links-2.is c.is_none-3.ensures)
    (there c.args.links.now 3 c.index-links-3.result c.is_none-4.result (omega arith) c.index-links-3.is c.is_none-4.ensures)
    (there c.args.links.now 4 c.index-links-4.result c.is_none-5.result (omega arith) c.index-links-4.is c.is_none-5.ensures)
    (there c.args.links.now 5 c.index-links-5.result c.is_none-6.result (omega arith) c.index-links-5.is c.is_none-6.ensures)
    (there c.args.links.now 6 c.index-links-6.result c.is_none-7.result (omega arith) c.index-links-6.is c.is_none-7.ensures)
    (there c.args.links.now 7 c.index-links-7.result c.is_none-8.result (omega arith) c.index-links-7.is c.is_none-8.ensures)
