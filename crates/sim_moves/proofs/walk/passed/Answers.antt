use Rattle.sim_events.specs.declared.Event.TheVariants as event
use Rattle.sim_world.specs.Acts.{acts}
use Rattle.sim_moves.proofs.Placing.{turned_once}
use Rattle.sim_moves.proofs.walk.passed.Goals as goal

pub returns-in_ok-after-in-Step-clause-work : goal.returns-in_ok-after-in-Step-clause-work
returns-in_ok-after-in-Step-clause-work g c =
    turned_once (acts c.args.world.world event.Step) _ _ c.in_ok-after-in-Step.ensures.work
