use Rattle.std.proofs.Common.{◌≡◌, drop}
use Rattle.sim_watch.specs.Holding.{holds_on}
use Rattle.sim_watch.proofs.holding.holds_on.Given as goal

abbrev pub invariant-loop-joined : goal.invariant-loop-joined
invariant-loop-joined g l =
    holds_on g.N.Node.laws l.so_far (drop l.joined-index l.terms) l.world.world ≡ holds_on g.N.Node.laws l.first l.terms l.world.world
