use Rattle.std.proofs.Common.{◌≡◌, ◌++◌, take, replicate}
use Rattle.sim_scenario.specs.Scenario as scenario
use Rattle.sim_scenario.proofs.hosts.host_operations.Given as goal

abbrev pub invariant-loop-i : goal.invariant-loop-i
invariant-loop-i l = l.operations ≡ scenario.first_32 (replicate l.servers 0 ++ take l.i l.clients)
