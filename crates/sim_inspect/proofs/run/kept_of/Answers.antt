use Rattle.std.proofs.Common.{length, ap, ◌∙◌}
use Rattle.sim_inspect.proofs.Branches.{events_here}
use Rattle.sim_inspect.proofs.run.kept_of.Goals as goal

pub returns-in-Some : goal.returns-in-Some
returns-in-Some g c =
    let book = c.args.book.now in
    let whole = rw c.in-Some.is at c.in_ok-run.ensures in
    c.len.ensures.value ∙ ap length (c.events.ensures
    ∙ events_here book.scenario book.kept c.args.branch c.in-Some.run' whole)
