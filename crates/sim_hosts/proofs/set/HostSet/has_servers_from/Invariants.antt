use Rattle.std.proofs.Common.{◌≡◌}
use Rattle.sim_hosts.specs.Hosts.{servers_from, all_in}
use Rattle.sim_hosts.proofs.set.HostSet.has_servers_from.Given as goal

-- what is asked of all is what is asked of those that are left
abbrev pub invariant-loop-host : goal.invariant-loop-host
invariant-loop-host l = all_in (servers_from l.first l.setup) l.self ≡ all_in (servers_from l.host l.setup) l.self
