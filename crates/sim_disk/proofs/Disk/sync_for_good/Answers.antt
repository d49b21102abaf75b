use Rattle.std.proofs.Common.{sym, subst}
use Rattle.sim_disk.specs.Disk.{IsDisk}
use Rattle.sim_disk.proofs.Fit.{IsDisk-synced}
use Rattle.sim_disk.proofs.Disk.sync_for_good.Goals as goal

pub invariant_of-self : goal.invariant_of-self
invariant_of-self c =
    subst IsDisk (sym c.in-Ok.ensures) (IsDisk-synced c.args.count _ c.self.invariant (rw (← c.self.view_is) at c.requires))
