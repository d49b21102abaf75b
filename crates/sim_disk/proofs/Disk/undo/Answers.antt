use Rattle.std.proofs.Common.{◌≡◌, arith}
use Rattle.sim_disk.specs.Disk.{DiskUndo}
use Rattle.sim_disk.proofs.Fit.{IsDisk-take, added_fits}
use Rattle.sim_disk.proofs.Disk.undo.Goals as goal

pub invariant_of-self : goal.invariant_of-self
invariant_of-self c =
    let is : DiskUndo.Added ≡ c.args.undo = rw c.in-Added.is at c.undo.view_is in
    let one = added_fits _ _ _ is c.self.view_is c.requires in
    rw c.pop.ensures.rest (IsDisk-take _ _ c.self.invariant (omega arith))
