use Rattle.std.proofs.Common.{◌≡◌, ◌+◌, ◌-◌, ◌≤◌, ◌++◌, length}
use Rattle.sim_hosts.specs.Hosts.{servers_from, to_all, not_in}
use Rattle.sim_hosts.proofs.servers.send_to_missing.Given as goal

-- what is sent, and what is left to send, is all
abbrev pub invariant-loop-host : goal.invariant-loop-host
invariant-loop-host g l = record {
  hosts : l.effects.hosts ≡ l.initial.effects.hosts;
  room : length l.effects.list + (l.setup.servers - l.host) ≤ length l.initial.effects.list + l.setup.servers;
  all : l.effects.list ++ to_all (not_in (servers_from l.host l.setup) l.set) l.msg ≡ l.initial.effects.list ++ to_all (not_in (servers_from l.first l.setup) l.set) l.msg;
}
