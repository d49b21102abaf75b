-- The primary begins the put of the lowest host that waits.
use Rattle.std.proofs.Common.{ℕ, ◌≡◌, None, Some, slice_set}
use Rattle.sim_node.specs.declared.host_setup.HostSetup.{HostSetup}
use Rattle.sim_primary_backup.specs.declared.roles.Waiter.{Waiter}
use Rattle.sim_primary_backup.specs.declared.roles.Primary.{Primary}
use Rattle.sim_hosts.specs.Waiting.{lowest_waiting}
use Rattle.sim_primary_backup.specs.PrimaryBackup.{begun, begun_lowest}

pub begun_lowest-Some : (setup : HostSetup) (p : Primary) (w : ℕ × Waiter) → Some w ≡ lowest_waiting setup p.waiting
    → begun_lowest setup p ≡ begun w.0 w.1.number w.1.val (record p { waiting = slice_set p.waiting w.0 None })
begun_lowest-Some setup p w e = rw (begun_lowest, ← e)
