-- What the node of a host did with its disk after its messages were sent.
use Rattle.std.specs.Prelude.{ℕ, List, [], ◌∷◌, ◌++◌, replicate}
use Rattle.sim_disk.specs.Disk as disk
use Rattle.sim_world.specs.declared.trail.Compact.{Compact}
use Rattle.sim_world.specs.declared.trail.Compact.TheVariants as compact
use Rattle.sim_world.specs.declared.trail.disk_work.DiskWork.{DiskWork}
use Rattle.sim_world.specs.declared.trail.disk_work.DiskWork.TheVariants as work

module _ {State Msg Undo : Type 0} where
  -- the given number of writes was added to the disk of a host
  abbrev pub written : ℕ → ℕ → List (Compact State Msg Undo)
  written host writes = replicate writes (compact.Stored host disk.DiskUndo.Added)

  -- the changes that a value stands for
  abbrev pub disk_changes : DiskWork → List (Compact State Msg Undo)
  disk_changes work.Nothing = []
  disk_changes (work.Wrote host writes) = written host writes
  disk_changes (work.Asked host writes was) =
      written host writes ++ compact.Stored host (disk.DiskUndo.Asked was) ∷ []
  disk_changes (work.Queued host writes was) =
      written host writes ++ compact.Stored host (disk.DiskUndo.Asked was) ∷ compact.Queued ∷ []
