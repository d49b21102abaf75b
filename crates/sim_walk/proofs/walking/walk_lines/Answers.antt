use Rattle.sim_walk.proofs.Growing.{grows_on}
use Rattle.sim_walk.proofs.walking.walk_lines.Goals as goal

pub loop-status-preserved : goal.loop-status-preserved
loop-status-preserved g c =
    let held = g.W.Write.contents in
    grows_on (held c.args.writer.now) (held c.loop-status.writer) (held c.walk_line.new.writer) c.loop-status.invariant c.walk_line.ensures.grows

pub returns-in-Ended-walk_line : goal.returns-in-Ended-walk_line
returns-in-Ended-walk_line g c =
    let held = g.W.Write.contents in
    grows_on (held c.args.writer.now) (held c.loop-status.writer) (held c.walk_line.new.writer) c.loop-status.invariant c.walk_line.ensures.grows
