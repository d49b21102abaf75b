use Rattle.std.proofs.Common.{sym, ap}
use Rattle.sim_runs.specs.Branch.{Branch}
use Rattle.sim_inspect.proofs.Branches.{not_there, nowhere}
use Rattle.sim_inspect.proofs.run.place_of.Goals as goal

pub returns-in-None-clause-place : goal.returns-in-None-clause-place
returns-in-None-clause-place g c =
    let kept = c.args.book.now.kept in
    sym (ap (λ (x : Branch). x.place) (nowhere kept c.args.branch (not_there kept c.args.branch c.in-None.ensures.there.1)))
