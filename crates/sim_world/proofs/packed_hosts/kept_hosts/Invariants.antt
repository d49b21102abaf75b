use Rattle.std.proofs.Common.{◌≡◌, ◌+◌, map, take, length, is_some}
use Rattle.std.specs.List.{count_by}
use Rattle.sim_world.specs.inside.Packed.{hosts_in, timers_in, others_in}
use Rattle.sim_world.proofs.packed_hosts.kept_hosts.Given as goal

abbrev pub invariant-loop-i : goal.invariant-loop-i
invariant-loop-i g l = record {
  hosts : hosts_in l.kept.items (map (λ host. host.disk) (take l.i l.hosts)) ≡ take l.i l.hosts;
  timers : timers_in l.kept.items ≡ take l.i l.timers;
  others : others_in l.kept.items ≡ take l.i l.others;
  count : length l.kept.items ≡ l.i;
  work : g.N.Meter.Meter.work l.meter ≡ record (g.N.Meter.Meter.work l.initial.meter) { copies = (g.N.Meter.Meter.work l.initial.meter).copies + count_by (λ host. is_some host.node) (take l.i l.hosts) };
}
