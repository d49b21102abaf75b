use Rattle.std.proofs.Common.{subst}
use Rattle.sim_world.specs.Events.{rules}
use Rattle.sim_book.specs.Book.{IsBranch}
use Rattle.sim_book.specs.Kept.{Kept, shown}
use Rattle.sim_book.proofs.kept.Kept.laws.Goals as goal

pub returns : goal.returns
returns g c =
    subst (λ (k : Kept). IsBranch (rules g.N.Node.laws g.N.Node.PROBES k.tape.scenario) (shown k)) c.self.view_is
    (record { runnable = c.laws.ensures.runs; within = c.laws.ensures.within; eight = c.are_eight.ensures })
