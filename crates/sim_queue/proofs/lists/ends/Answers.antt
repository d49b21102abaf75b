use Rattle.std.proofs.Common.{rules}
use Rattle.sim_queue.proofs.Ends.{ends_more}
use Rattle.sim_queue.proofs.lists.ends.Goals as goal

pub loop-list-preserved : goal.loop-list-preserved
loop-list-preserved c = record {
  len = search rules;
  room = search rules;
  ends = ends_more c.args.width c.loop-list.list c.loop-list.made.items c.push_reserved.new.self.items c.requires.narrow c.loop-list-test.true c.loop-list.invariant.len c.push_reserved.ensures.items
      c.loop-list.invariant.ends;
}
