use Rattle.std.proofs.Common.{◌≡◌, drop}
use Rattle.sim_watch.specs.Condition.{no_two}
use Rattle.sim_watch.specs.Clashing.{clash}
use Rattle.sim_watch.proofs.clashes.Clash.is_nowhere.Given as goal

abbrev pub invariant-loop-host : goal.invariant-loop-host
invariant-loop-host g l =
    no_two (clash g.N.Node.laws l.self) (drop l.host l.world.world.hosts) ≡ no_two (clash g.N.Node.laws l.self) l.world.world.hosts
