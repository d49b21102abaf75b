use Rattle.std.proofs.Common.{sym, ◌∙◌}
use Rattle.sim_moves.proofs.Placing.{turned_once}
use Rattle.sim_watch.proofs.Concerned.{holds_same}
use Rattle.sim_sweep.proofs.walk.Watcher.moved.Goals as goal

pub returns-in_ok-next-in-Step-clause-same : goal.returns-in_ok-next-in-Step-clause-same
returns-in_ok-next-in-Step-clause-same g c = λ off.
    holds_same g.N.Node.laws c.in_ok-next-in-Step.host c.args.world.world c.in_ok-next-in-Step.next.world c.in_ok-next-in-Step.ensures.others c.args.self.now.cond.now
    (sym (c.args.self.now.about c.in_ok-next-in-Step.host c.in_ok-next-in-Step.ensures.there) ∙ off)

pub returns-in_ok-next-in-Step-clause-work : goal.returns-in_ok-next-in-Step-clause-work
returns-in_ok-next-in-Step-clause-work g c = turned_once _ _ _ c.in_ok-next-in-Step.ensures.work
