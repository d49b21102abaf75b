use Rattle.sim_world.specs.Events.{rules}
use Rattle.sim_inspect.proofs.Branches.{place_within}
use Rattle.sim_walk.proofs.Ways.{way_told, no_way}
use Rattle.sim_walk.proofs.account.account_of.Goals as goal

pub way_lines-requires-clause-from : goal.way_lines-requires-clause-from
way_lines-requires-clause-from g c =
    let book = c.args.book.now in
    let whole = rw c.in-Some.is at c.in_ok-run.ensures in
    place_within book.scenario book.kept c.args.branch c.in-Some.run'.frozen whole c.args.from c.requires.from

pub way_lines-requires-clause-to : goal.way_lines-requires-clause-to
way_lines-requires-clause-to g c =
    let book = c.args.book.now in
    let whole = rw c.in-Some.is at c.in_ok-run.ensures in
    place_within book.scenario book.kept c.args.branch c.in-Some.run'.frozen whole c.args.to c.requires.to

pub returns : goal.returns
returns g c =
    let book = c.args.book.now in
    let whole = rw c.in-Some.is at c.in_ok-run.ensures in
    way_told g.N.Node.laws g.N.Node.PROBES book.scenario book.kept c.args.branch c.in-Some.run'.frozen whole c.args.from c.args.to
    c.in_ok-told.told.items c.in_ok-told.ensures

pub returns-in_default : goal.returns-in_default
returns-in_default g c =
    let book = c.args.book.now in
    no_way (rules g.N.Node.laws g.N.Node.PROBES book.scenario) book.kept c.args.branch c.args.from c.args.to c.of_words.result.told.items
    (rw c.in_default.is at c.in_ok-run.ensures) c.requires.from c.requires.to c.of_words.ensures
