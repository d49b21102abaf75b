use Rattle.std.proofs.Common.{arith}
use Rattle.sim_disk.specs.Disk.{all_laid, all_kept}
use Rattle.sim_disk.proofs.Laid.{next_kept, last_kept}
use Rattle.sim_disk.proofs.lay.kept_laid.Goals as goal

pub loop-i-preserved : goal.loop-i-preserved
loop-i-preserved c =
    next_kept c.loop-i.bytes.items c.lay.new.bytes.items c.bytes-source.result.now (all_laid c.args.over.now (all_kept c.args.words.now c.args.writes.now))
    c.args.words.now c.args.writes.now c.loop-i.i c.offset.result c.kept-len.result c.index-writes-i.result c.loop-i.invariant (omega arith)
    c.loop-i-test.true c.index-writes-i.is c.kept-len.ensures.kept c.offset.ensures c.bytes-source.ensures.bytes c.in_ok-lay.ensures

pub returns : goal.returns
returns c =
    last_kept c.loop-i.bytes.items (all_laid c.args.over.now (all_kept c.args.words.now c.args.writes.now)) c.args.words.now c.args.writes.now c.loop-i.i
    c.loop-i.invariant (omega arith)
