use Rattle.std.proofs.Common.{arith, ◌<◌, length}
use Rattle.std.proofs.lemmas.Grind.{common_steps}
use Rattle.sim_disk.proofs.Laid.{laid_filled}
use Rattle.sim_disk.proofs.lay.lay.Goals as goal

pub returns : goal.returns
returns c =
    let some : 0 < length c.args.source.now = grind (arith, common_steps) in
    rw (c.copy_over.ensures, c.in_ok-fill_to.ensures) (laid_filled c.args.offset c.args.source.now c.args.bytes.now.items some)
