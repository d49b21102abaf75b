use Rattle.std.proofs.Common.{◌≡◌, take}
use Rattle.sim_world.specs.inside.Packed.{others_in}
use Rattle.sim_world.proofs.packed_hosts.PackedHosts.others.Given as goal

abbrev pub invariant-loop-kept : goal.invariant-loop-kept
invariant-loop-kept g l = l.others.items ≡ others_in (take l.kept-index l.kept-items)
