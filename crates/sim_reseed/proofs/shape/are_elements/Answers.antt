use Rattle.std.proofs.Common.{arith}
use Rattle.sim_reseed.proofs.Shapes.{element_at}
use Rattle.sim_reseed.proofs.shape.are_elements.Goals as goal

pub returns-then-not-is_element-clause-other : goal.returns-then-not-is_element-clause-other
returns-then-not-is_element-clause-other c = λ _.
    element_at c.args.items.now c.loop-item.item-index c.item-item.result (omega arith) c.item-item.is (c.is_element.ensures.other c.if-not-is_element.true)
