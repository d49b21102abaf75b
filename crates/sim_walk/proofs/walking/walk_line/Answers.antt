use Rattle.sim_walk.proofs.Growing.{grows_on}
use Rattle.sim_walk.proofs.walking.walk_line.Goals as goal

pub returns-in-Line-clause-grows : goal.returns-in-Line-clause-grows
returns-in-Line-clause-grows g c =
    let held = g.W.Write.contents in
    grows_on (held c.args.writer.now) (held c.prompt.new.writer) (held c.answer.new.writer) c.prompt.ensures c.answer.ensures

pub returns-in-On-answer-clause-grows : goal.returns-in-On-answer-clause-grows
returns-in-On-answer-clause-grows g c =
    let held = g.W.Write.contents in
    grows_on (held c.args.writer.now) (held c.prompt.new.writer) (held c.end.new.writer) c.prompt.ensures
    (grows_on (held c.prompt.new.writer) (held c.answer-in-Last.new.writer) (held c.end.new.writer) c.answer-in-Last.ensures c.end.ensures)

pub returns-in-Ended-answer-clause-grows : goal.returns-in-Ended-answer-clause-grows
returns-in-Ended-answer-clause-grows g c =
    let held = g.W.Write.contents in
    grows_on (held c.args.writer.now) (held c.prompt.new.writer) (held c.answer-in-Last.new.writer) c.prompt.ensures c.answer-in-Last.ensures

pub returns-in-End-clause-grows : goal.returns-in-End-clause-grows
returns-in-End-clause-grows g c =
    let held = g.W.Write.contents in
    grows_on (held c.args.writer.now) (held c.prompt.new.writer) (held c.end-in-End.new.writer) c.prompt.ensures c.end-in-End.ensures
