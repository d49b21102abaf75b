-- Runs of primary-backup, worked out.
use Rattle.std.specs.Prelude.{◌≡◌, [], ◌∷◌, ◌++◌, Some, true, false}
use Rattle.std.proofs.Common.{refl}
use Rattle.sim_events.specs.declared.Event.TheVariants as event
use Rattle.sim_events.specs.declared.Fault.TheVariants as fault
use Rattle.sim_events.specs.declared.Query.TheVariants as query
use Rattle.sim_events.specs.declared.View.TheVariants as view
use Rattle.sim_world.specs.Events.{Rules, rules}
use Rattle.sim_primary_backup.specs.declared.roles.BackupMsg.{BackupMsg}
use Rattle.sim_primary_backup.specs.declared.roles.State.{State}
use Rattle.sim_primary_backup.specs.PrimaryBackup.{primary_backup}
use Rattle.test_world.proofs.ProtocolBase.{on_rows, three_hosts, with_setup, seen, steps}

abbrev fast : Rules State BackupMsg
fast = rules primary_backup 2 (with_setup three_hosts 0)

-- a sync takes 5 ms
abbrev slow : Rules State BackupMsg
slow = rules primary_backup 2 (with_setup three_hosts 5)

-- The put is asked for, stable at the primary, stable at the backup, and answered.
one_put : seen fast (steps 9) query.Summary ≡ Some (view.Summary 40 12 8 0 2 0)
unfolding on_rows
one_put = refl

client_done : seen fast (steps 9) (query.HostView 2) ≡ Some (view.HostView 2 true true 2 0 0)
unfolding on_rows
client_done = refl

client_waits : seen fast (steps 8) (query.HostView 2) ≡ Some (view.HostView 2 true false 1 0 0)
unfolding on_rows
client_waits = refl

primary_stable : seen fast (steps 9) (query.HostView 0) ≡ Some (view.HostView 0 true false 4 137 0)
unfolding on_rows
primary_stable = refl

backup_applied : seen fast (steps 9) (query.Probe 1 1) ≡ Some (view.Probe 1 1 (Some 1))
unfolding on_rows
backup_applied = refl

-- A primary that starts again spreads its last put again.
bounced : seen fast (steps 9 ++ event.Fault (fault.Crash 0) ∷ event.Fault (fault.Bounce 0) ∷ event.Step ∷ []) query.Summary
    ≡ Some (view.Summary 40 15 10 0 3 0)
unfolding on_rows
bounced = refl

slow_put : seen slow (steps 9) (query.HostView 2) ≡ Some (view.HostView 2 true true 2 0 0)
unfolding on_rows
slow_put = refl

slow_summary : seen slow (steps 9) query.Summary ≡ Some (view.Summary 50 12 8 0 2 0)
unfolding on_rows
slow_summary = refl
