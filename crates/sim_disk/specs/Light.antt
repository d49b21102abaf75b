-- The records of writes and of syncs that ask, which store nothing of the disk.
use Rattle.std.specs.Prelude.{Option, None, Some}
use Rattle.sim_disk.specs.Disk.{DiskUndo}
use Rattle.sim_disk.specs.declared.LightUndo.{LightUndo}
use Rattle.sim_disk.specs.declared.LightUndo.TheVariants as light_undo

-- the same record among those of all kinds
abbrev pub whole : LightUndo → DiskUndo
whole light_undo.Added = DiskUndo.Added
whole (light_undo.Asked was) = DiskUndo.Asked was

-- a record as a light one, if it is of a write or of a sync that asks
abbrev pub light : DiskUndo → Option LightUndo
light DiskUndo.Unchanged = None
light DiskUndo.Added = Some light_undo.Added
light (DiskUndo.Asked was) = Some (light_undo.Asked was)
light (DiskUndo.Synced count was) = None
light (DiskUndo.Crashed was) = None
