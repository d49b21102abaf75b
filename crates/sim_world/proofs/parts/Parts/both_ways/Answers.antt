use Rattle.std.proofs.lemmas.Result.{on_ok_weaker}
use Rattle.sim_world.proofs.Trails.{extends-then}
use Rattle.sim_world.proofs.parts.Parts.both_ways.Goals as goal

pub returns-clause-trail : goal.returns-clause-trail
returns-clause-trail g c =
    on_ok_weaker c.one_way-2.result (λ e. extends-then g.N.Node.records c.in_ok-one_way.ensures.trail e) c.one_way-2.ensures.trail
