use Rattle.std.proofs.Common.{◌≡◌, drop}
use Rattle.sim_watch.specs.Condition.{all_in}
use Rattle.sim_watch.proofs.counting.all_in.Given as goal

abbrev pub invariant-loop-host : goal.invariant-loop-host
invariant-loop-host g l =
    all_in g.N.Node.laws l.probe l.op l.number (drop l.host l.world.world.hosts) ≡ all_in g.N.Node.laws l.probe l.op l.number l.world.world.hosts
