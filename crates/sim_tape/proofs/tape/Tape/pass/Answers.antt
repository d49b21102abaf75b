use Rattle.std.proofs.Common.{IfSome, subst}
use Rattle.sim_moves.specs.Places.{ChangesOnly}
use Rattle.sim_tape.specs.Tape.{Tape}
use Rattle.sim_tape.specs.Works.{rules_of}
use Rattle.sim_tape.proofs.tape.Tape.pass.Goals as goal

pub returns-clause-only : goal.returns-clause-only
returns-clause-only g c =
    let P : Tape → Type 0 = λ t. IfSome c.in_ok-host.host (λ h. ChangesOnly (rules_of g.N.Node.laws g.N.Node.PROBES t) h t.place t.events) in
    subst P c.self.view_is c.in_ok-host.ensures.only
