use Rattle.sim_disk.specs.Disk.{all_laid}
use Rattle.sim_disk.proofs.Laid.{next_laid, last_laid}
use Rattle.sim_disk.proofs.lay.lay_all.Goals as goal

pub loop-write-preserved : goal.loop-write-preserved
loop-write-preserved c =
    next_laid c.loop-write.bytes.items c.lay.new.bytes.items c.bytes.result.now (all_laid c.args.bytes.now.items c.args.writes.now) c.args.writes.now
    c.loop-write.write-index c.offset.result c.write-item.result c.loop-write.invariant c.loop-write-test.true c.write-item.is c.offset.ensures
    c.bytes.ensures.bytes c.in_ok-lay.ensures

pub returns : goal.returns
returns c =
    last_laid c.loop-write.bytes.items (all_laid c.args.bytes.now.items c.args.writes.now) c.args.writes.now c.loop-write.write-index c.loop-write.invariant
    c.loop-write-test.false
