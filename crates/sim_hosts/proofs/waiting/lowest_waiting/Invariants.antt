use Rattle.std.proofs.Common.{◌≡◌, ◌-◌}
use Rattle.sim_hosts.specs.Waiting.{first_waiting, lowest_waiting}
use Rattle.sim_hosts.proofs.waiting.lowest_waiting.Given as goal

-- the first of all is the first of those that are left
abbrev pub invariant-loop-host : goal.invariant-loop-host
invariant-loop-host g l = lowest_waiting l.setup l.waiting ≡ first_waiting l.waiting l.host (l.setup.hosts - l.host)
