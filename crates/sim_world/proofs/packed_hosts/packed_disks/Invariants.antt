use Rattle.std.proofs.Common.{◌≡◌, map, take}
use Rattle.sim_world.proofs.packed_hosts.packed_disks.Given as goal

abbrev pub invariant-loop-host : goal.invariant-loop-host
invariant-loop-host g l = l.disks ≡ map (λ host. host.disk) (take l.host-index l.hosts)
