use Rattle.std.proofs.Common.{◌≤◌, subst}
use Rattle.sim_tape.specs.Tape.{Tape}
use Rattle.sim_tape.proofs.tape.Tape.reach.Goals as goal

pub returns-clause-within : goal.returns-clause-within
returns-clause-within g c = subst (λ (t : Tape). t.reach ≤ t.place) c.self.view_is c.self.invariant.2.answers.reach
