use Rattle.std.proofs.Common.{◌≡◌, take}
use Rattle.sim_world.specs.inside.Packed.{timers_in}
use Rattle.sim_world.proofs.packed_hosts.PackedHosts.timers.Given as goal

abbrev pub invariant-loop-kept : goal.invariant-loop-kept
invariant-loop-kept g l = l.timers.items ≡ timers_in (take l.kept-index l.kept-items)
