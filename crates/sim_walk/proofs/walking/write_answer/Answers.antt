use Rattle.sim_walk.proofs.Growing.{grows_on}
use Rattle.sim_walk.proofs.walking.write_answer.Goals as goal

pub returns-in-On-clause-grows : goal.returns-in-On-clause-grows
returns-in-On-clause-grows g c =
    let held = g.W.Write.contents in
    grows_on (held c.args.writer.now) (held c.say.new.writer) (held c.write_account.new.writer) c.say.ensures.grows c.write_account.ensures.grows
