-- Runs of two-phase commit, worked out.
use Rattle.std.specs.Prelude.{◌≡◌, [], ◌∷◌, ◌++◌, List, Some, true, false, replicate}
use Rattle.std.specs.Option.{option_map}
use Rattle.std.proofs.Common.{refl}
use Rattle.sim_events.specs.declared.Event.{Event}
use Rattle.sim_events.specs.declared.Event.TheVariants as event
use Rattle.sim_events.specs.declared.Fault.TheVariants as fault
use Rattle.sim_events.specs.declared.Query.TheVariants as query
use Rattle.sim_events.specs.declared.View.TheVariants as view
use Rattle.sim_events.specs.declared.Kind.TheVariants as kind
use Rattle.sim_world.specs.World.{host_at}
use Rattle.sim_world.specs.Events.{Rules, rules, run}
use Rattle.sim_two_phase.specs.declared.roles.CommitMsg.{CommitMsg}
use Rattle.sim_two_phase.specs.declared.roles.State.{State}
use Rattle.sim_two_phase.specs.TwoPhase.{two_phase}
use Rattle.test_world.proofs.ProtocolBase.{on_rows, three_hosts, with_setup, seen, steps}

abbrev fast : Rules State CommitMsg
fast = rules two_phase 2 (with_setup three_hosts 0)

-- The coordinator crashes when the prepare is on its way, and is started again: it presumes that transaction 1 was aborted.
abbrev crashed : List Event
crashed = steps 5 ++ event.Fault (fault.Crash 0) ∷ event.Fault (fault.Bounce 0) ∷ []

coordinator_voting : seen fast (steps 5) (query.HostView 0) ≡ Some (view.HostView 0 true false 3 10 0)
unfolding on_rows
coordinator_voting = refl

presumed_abort : seen fast crashed (query.Probe 0 1) ≡ Some (view.Probe 0 1 (Some 2))
unfolding on_rows
presumed_abort = refl

client_done : seen fast (crashed ++ steps 17) (query.HostView 2) ≡ Some (view.HostView 2 true true 3 0 0)
unfolding on_rows
client_done = refl

coordinator_aborted : seen fast (crashed ++ steps 17) (query.Probe 0 1) ≡ Some (view.Probe 0 1 (Some 2))
unfolding on_rows
coordinator_aborted = refl

participant_aborted : seen fast (crashed ++ steps 17) (query.Probe 1 1) ≡ Some (view.Probe 1 1 (Some 2))
unfolding on_rows
participant_aborted = refl

-- Agreement on transaction 1 is broken where a sync takes 5 ms, under the seed of zeros but for a 5 in byte 24.
-- The coordinator's write of its commit is torn after its ninth byte: its disk holds transaction 1 with the commit flag, and that
-- transaction 1 is open. It presumes abort, and tells the participant to commit.
abbrev torn : Rules State CommitMsg
torn = rules two_phase 2 (record (with_setup three_hosts 5) { seed = replicate 24 0 ++ 5 ∷ replicate 7 0 })

abbrev torn_commit : List Event
torn_commit = steps 8 ++ event.Fault (fault.Crash 0) ∷ event.Fault (fault.Bounce 0) ∷ []

torn_bytes : option_map (λ w. (host_at 0 w).disk.stable) (run torn torn_commit) ≡ Some (1 ∷ 0 ∷ 0 ∷ 0 ∷ 0 ∷ 0 ∷ 0 ∷ 0 ∷ 1 ∷ 0 ∷ [])
unfolding on_rows
torn_bytes = refl

torn_coordinator : seen torn (torn_commit ++ steps 2) (query.Probe 0 1) ≡ Some (view.Probe 0 1 (Some 2))
unfolding on_rows
torn_coordinator = refl

torn_participant : seen torn (torn_commit ++ steps 2) (query.Probe 1 1) ≡ Some (view.Probe 1 1 (Some 1))
unfolding on_rows
torn_participant = refl

-- the write of the commit is not stable when the coordinator crashes; then its disk has no other write
unsynced_commit : seen torn (steps 8) (query.HostView 0) ≡ Some (view.HostView 0 true false 4 10 1)
unfolding on_rows
unsynced_commit = refl

torn_disk : seen torn torn_commit (query.HostView 0) ≡ Some (view.HostView 0 true false 4 10 0)
unfolding on_rows
torn_disk = refl

-- the coordinator tells the participant to commit
torn_next : seen torn (torn_commit ++ steps 1) query.Next
    ≡ Some (view.Next (Some (record { due = 50; serial = 15; host = 1; kind = kind.Message })))
unfolding on_rows
torn_next = refl

-- a step before they agree still, since the participant has not learned of it
torn_before : seen torn (torn_commit ++ steps 1) (query.Probe 1 1) ≡ Some (view.Probe 1 1 (Some 0))
unfolding on_rows
torn_before = refl

torn_clock : option_map (λ w. w.clock) (run torn (torn_commit ++ steps 2)) ≡ Some 50
unfolding on_rows
torn_clock = refl
