use Rattle.sim_walk.proofs.Growing.{grows_on}
use Rattle.sim_walk.proofs.walking.write_account.Goals as goal

pub returns-in-On-say-clause-grows : goal.returns-in-On-say-clause-grows
returns-in-On-say-clause-grows g c =
    let held = g.W.Write.contents in
    grows_on (held c.args.writer.now) (held c.say-2.new.writer) (held c.say-in-On-say.new.writer)
    (grows_on (held c.args.writer.now) (held c.say.new.writer) (held c.say-2.new.writer) c.say.ensures.grows c.say-2.ensures.grows)
    c.say-in-On-say.ensures.grows

pub returns-in-Ended-say-clause-grows : goal.returns-in-Ended-say-clause-grows
returns-in-Ended-say-clause-grows g c =
    let held = g.W.Write.contents in
    grows_on (held c.args.writer.now) (held c.say.new.writer) (held c.say-2.new.writer) c.say.ensures.grows c.say-2.ensures.grows
