-- The records of two-phase commit: a role before a reaction.
use Rattle.std.specs.Prelude.{ℕ, ◌<◌, Some, IfSome}
use Rattle.sim_node.specs.Node.{NodeRecords}
use Rattle.sim_hosts.specs.Waiting.{restored, IsPlacedSlot}
use Rattle.sim_two_phase.specs.declared.roles.Phase.{Phase}
use Rattle.sim_two_phase.specs.declared.roles.Phase.TheVariants as phase
use Rattle.sim_two_phase.specs.declared.roles.Conduct.{Conduct}
use Rattle.sim_two_phase.specs.declared.roles.Coordinator.{Coordinator}
use Rattle.sim_two_phase.specs.declared.roles.Role.{Role}
use Rattle.sim_two_phase.specs.declared.roles.Role.TheVariants as role
use Rattle.sim_two_phase.specs.declared.roles.State.{State}
use Rattle.sim_two_phase.specs.declared.roles.Slots.{Slots}
use Rattle.sim_two_phase.specs.declared.roles.CommitUndo.{CommitUndo}
use Rattle.sim_two_phase.specs.declared.roles.CommitUndo.TheVariants as undo

-- the clients to which the coordinator owes answers exist
abbrev pub IsPlacedPhase : ℕ → Phase → Type 0
IsPlacedPhase hosts (phase.Voting client votes number) = client < hosts
IsPlacedPhase hosts _ = Unit {0}

pub record IsPlacedConduct (hosts : ℕ) (c : Conduct) : Type 0 where
  pub phase : IsPlacedPhase hosts c.phase
  pub owed : IfSome c.owed (λ o. o.client < hosts)

abbrev pub IsPlaced : ℕ → Role → Type 0
IsPlaced hosts (role.Coordinator c) = IsPlacedConduct hosts c.conduct
IsPlaced hosts _ = Unit {0}

abbrev pub coordinator_before : Conduct → Slots → Coordinator → Coordinator
coordinator_before conduct slots c =
    record { conduct = conduct; waiting = restored slots.asked (restored slots.begun c.waiting) }

-- both slots name one of the 32 hosts
abbrev pub IsPlacedSlots : Slots → Type 0
IsPlacedSlots slots = IsPlacedSlot slots.asked × IsPlacedSlot slots.begun

-- a record fits a host with the same role
abbrev pub fits_role : ℕ → CommitUndo → Role → Type 0
fits_role hosts (undo.Coordinator conduct slots) (role.Coordinator c) =
    IsPlacedConduct hosts conduct × IsPlacedSlots slots
fits_role hosts (undo.Participant before) (role.Participant now) = Unit {0}
fits_role hosts (undo.Client next) (role.Client now) = Unit {0}
fits_role hosts _ _ = ⊥

abbrev pub role_before : CommitUndo → Role → Role
role_before (undo.Client next) r = role.Client next
role_before (undo.Participant p) r = role.Participant p
role_before (undo.Coordinator conduct slots) (role.Coordinator c) =
    role.Coordinator (coordinator_before conduct slots c)
role_before (undo.Coordinator conduct slots) r = r

abbrev pub commit_records : NodeRecords State CommitUndo
commit_records = record {
  fits = λ undo state. fits_role state.setup.hosts undo state.role;
  back = λ undo state. record state { role = role_before undo state.role };
}
