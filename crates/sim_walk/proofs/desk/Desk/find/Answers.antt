use Rattle.std.proofs.Common.{subst}
use Rattle.std.specs.Option.{option_map}
use Rattle.sim_book.specs.Freezing.{IsWhole}
use Rattle.sim_walk.proofs.Seeking.{found_here}
use Rattle.sim_walk.proofs.desk.Desk.find.Goals as goal

pub returns : goal.returns
returns g c =
    let book = c.args.book.now in
    let run = c.in-Some-2.run' in
    let whole = subst (λ o. IsWhole book.scenario book.kept c.args.branch (option_map (λ x. x.frozen) o)) c.in-Some-2.is c.in_ok-run.ensures in
    found_here g.N.Node.laws g.N.Node.PROBES book.scenario book.kept c.args.branch run.frozen c.place_of-here.result c.args.sought.now c.seek.result whole c.place_of-here.ensures.place
    c.place_of-here.ensures.within c.seek.ensures
