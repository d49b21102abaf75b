-- The records of primary-backup: a role before a reaction.
use Rattle.std.specs.Prelude.{ℕ, ◌<◌, List, Option, slice_set, IfSome}
use Rattle.sim_node.specs.Node.{NodeRecords}
use Rattle.sim_hosts.specs.Waiting.{restored, IsPlacedSlot}
use Rattle.sim_primary_backup.specs.declared.roles.Progress.{Progress}
use Rattle.sim_primary_backup.specs.declared.roles.Store.{Store}
use Rattle.sim_primary_backup.specs.declared.roles.Request.{Request}
use Rattle.sim_primary_backup.specs.declared.roles.Primary.{Primary}
use Rattle.sim_primary_backup.specs.declared.roles.Role.{Role}
use Rattle.sim_primary_backup.specs.declared.roles.Role.TheVariants as role
use Rattle.sim_primary_backup.specs.declared.roles.State.{State}
use Rattle.sim_primary_backup.specs.declared.roles.CellBefore.{CellBefore}
use Rattle.sim_primary_backup.specs.declared.roles.CellBefore.TheVariants as cell
use Rattle.sim_primary_backup.specs.declared.roles.Changes.{Changes}
use Rattle.sim_primary_backup.specs.declared.roles.BackupUndo.{BackupUndo}
use Rattle.sim_primary_backup.specs.declared.roles.BackupUndo.TheVariants as undo

-- The last cell is one of the 16, and the client of the current put is a host.
abbrev pub IsPlacedStore : Progress → Type 0
IsPlacedStore progress = progress.last < 16

abbrev pub IsPlacedCurrent : ℕ → Option Request → Type 0
IsPlacedCurrent hosts current = IfSome current (λ r. IfSome r.client (λ client. client < hosts))

pub record IsPlacedPrimary (hosts : ℕ) (progress : Progress) (current : Option Request) : Type 0
  where
    pub last : IsPlacedStore progress
    pub client : IsPlacedCurrent hosts current

abbrev pub IsPlaced : ℕ → Role → Type 0
IsPlaced hosts (role.Client next) = Unit {0}
IsPlaced hosts (role.Primary p) = IsPlacedPrimary hosts p.store.progress p.current
IsPlaced hosts (role.Backup store) = IsPlacedStore store.progress

-- the cells with the changed one restored
abbrev pub restored_cell : CellBefore → List ℕ → List ℕ
restored_cell cell.Same cells = cells
restored_cell (cell.Held place val) cells = slice_set cells place val

abbrev pub store_before : Progress → CellBefore → Store → Store
store_before progress before store =
    record { cells = restored_cell before store.cells; progress = progress }

abbrev pub primary_before : Progress → Option Request → Changes → Primary → Primary
primary_before progress current changes p = record {
  store = store_before progress changes.cell p.store;
  current = current;
  waiting = restored changes.slot p.waiting;
}

-- A changed cell is one of the 16, and a changed slot that of one of the 32 hosts.
abbrev pub IsPlacedCell : CellBefore → Type 0
IsPlacedCell cell.Same = Unit {0}
IsPlacedCell (cell.Held place val) = place < 16

abbrev pub IsPlacedChanges : Changes → Type 0
IsPlacedChanges changes = IsPlacedCell changes.cell × IsPlacedSlot changes.slot

-- a record fits a host with the same role
abbrev pub fits_role : ℕ → BackupUndo → Role → Type 0
fits_role hosts (undo.Client next) (role.Client now) = Unit {0}
fits_role hosts (undo.Primary progress current changes) (role.Primary p) =
    IsPlacedPrimary hosts progress current × IsPlacedChanges changes
fits_role hosts (undo.Backup progress before) (role.Backup store) =
    IsPlacedStore progress × IsPlacedCell before
fits_role hosts _ r = ⊥

abbrev pub role_before : BackupUndo → Role → Role
role_before (undo.Client next) r = role.Client next
role_before (undo.Primary progress current changes) (role.Primary p) =
    role.Primary (primary_before progress current changes p)
role_before (undo.Backup progress before) (role.Backup store) =
    role.Backup (store_before progress before store)
role_before _ r = r

abbrev pub backup_records : NodeRecords State BackupUndo
backup_records = record {
  fits = λ undo state. fits_role state.setup.hosts undo state.role;
  back = λ undo state. record state { role = role_before undo state.role };
}
