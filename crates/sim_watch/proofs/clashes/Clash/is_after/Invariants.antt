use Rattle.std.proofs.Common.{◌≡◌, ◌+◌, drop}
use Rattle.std.specs.List.{list_any}
use Rattle.sim_world.specs.World.{host_at}
use Rattle.sim_watch.specs.Clashing.{clash}
use Rattle.sim_watch.proofs.clashes.Clash.is_after.Given as goal

abbrev pub invariant-loop-other : goal.invariant-loop-other
invariant-loop-other g l =
    let clashes = clash g.N.Node.laws l.self (host_at l.host l.world.world) in
    list_any clashes (drop l.other l.world.world.hosts) ≡ list_any clashes (drop (l.host + 1) l.world.world.hosts)
