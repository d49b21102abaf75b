-- The records of Raft: a client before a reaction, or a server's standing and what changed.
use Rattle.std.specs.Prelude.{ℕ, ◌<◌, ◌≤◌, List, slice_set, IfSome}
use Rattle.sim_node.specs.Node.{IsHostSetup, NodeRecords}
use Rattle.example_raft.specs.declared.roles.Entry.{Entry}
use Rattle.example_raft.specs.declared.roles.Standing.{Standing}
use Rattle.example_raft.specs.declared.roles.Peer.{Peer}
use Rattle.example_raft.specs.declared.roles.Server.{Server}
use Rattle.example_raft.specs.declared.roles.Role.{Role}
use Rattle.example_raft.specs.declared.roles.Role.TheVariants as role
use Rattle.example_raft.specs.declared.roles.State.{State}
use Rattle.example_raft.specs.declared.roles.Change.{Change}
use Rattle.example_raft.specs.declared.roles.Change.TheVariants as change
use Rattle.example_raft.specs.declared.roles.RaftUndo.{RaftUndo}
use Rattle.example_raft.specs.declared.roles.RaftUndo.TheVariants as undo

-- The log is within its 64 places, and the vote and the leader are hosts.
pub record IsPlacedStanding (hosts : ℕ) (standing : Standing) : Type 0 where
  pub len : standing.len ≤ 64
  pub voted : IfSome standing.voted (λ host. host < hosts)
  pub leader : IfSome standing.leader (λ host. host < hosts)

abbrev pub IsPlaced : ℕ → Role → Type 0
IsPlaced hosts (role.Client c) = c.server < hosts
IsPlaced hosts (role.Server s) = IsPlacedStanding hosts s.standing

-- A state is that of a host of a lawful cluster.
pub record IsHost (state : State) : Type 0 where
  pub setup : IsHostSetup state.setup
  pub me : state.me < state.setup.hosts
  pub placed : IsPlaced state.setup.hosts state.role

-- A changed place is one of the 64, and a changed acknowledgement that of one of the 32 hosts.
abbrev pub IsPlacedChange : Change → Type 0
IsPlacedChange change.Nothing = Unit {0}
IsPlacedChange (change.Entry place e) = place < 64
IsPlacedChange (change.Peer host p) = host < 32

abbrev pub restored_log : Change → List Entry → List Entry
restored_log (change.Entry place e) log = slice_set log place e
restored_log _ log = log

abbrev pub restored_peers : Change → List Peer → List Peer
restored_peers (change.Peer host p) peers = slice_set peers host p
restored_peers _ peers = peers

abbrev pub server_before : Standing → Change → Server → Server
server_before standing what s =
    record {
      standing = standing;
      log = restored_log what s.log;
      peers = restored_peers what s.peers;
    }

-- a record fits a host with the same role
abbrev pub fits_role : ℕ → RaftUndo → Role → Type 0
fits_role hosts (undo.Client before) (role.Client c) = before.server < hosts
fits_role hosts (undo.Server standing what) (role.Server s) =
    IsPlacedStanding hosts standing × IsPlacedChange what
fits_role hosts _ r = ⊥

abbrev pub role_before : RaftUndo → Role → Role
role_before (undo.Client before) r = role.Client before
role_before (undo.Server standing what) (role.Server s) =
    role.Server (server_before standing what s)
role_before _ r = r

abbrev pub raft_records : NodeRecords State RaftUndo
raft_records = record {
  fits = λ undo state. fits_role state.setup.hosts undo state.role;
  back = λ undo state. record state { role = role_before undo state.role };
}
