use Rattle.std.proofs.Common.{◌≡◌, ◌+◌, take, is_some}
use Rattle.std.specs.List.{count_by}
use Rattle.sim_world.proofs.packed_hosts.PackedHosts.hosts.Given as goal

abbrev pub invariant-loop-number : goal.invariant-loop-number
invariant-loop-number g l = record {
  hosts : l.hosts.items ≡ take l.number l.self.hosts;
  work : g.N.Meter.Meter.work l.meter ≡ record (g.N.Meter.Meter.work l.initial.meter) { copies = (g.N.Meter.Meter.work l.initial.meter).copies + count_by (λ host. is_some host.node) (take l.number l.self.hosts) };
}
