use Rattle.std.proofs.Common.{◌≡◌, ◌+◌, ◌-◌, ◌≤◌, ◌++◌, length}
use Rattle.sim_hosts.specs.Hosts.{servers_from, to_all}
use Rattle.sim_hosts.proofs.servers.send_to_all.Given as goal

-- what is sent, and what is left to send, is all
abbrev pub invariant-loop-host : goal.invariant-loop-host
invariant-loop-host g l = record {
  hosts : l.effects.hosts ≡ l.initial.effects.hosts;
  room : length l.effects.list + (l.setup.servers - l.host) ≤ length l.initial.effects.list + l.setup.servers;
  all : l.effects.list ++ to_all (servers_from l.host l.setup) l.msg ≡ l.initial.effects.list ++ to_all (servers_from l.first l.setup) l.msg;
}
