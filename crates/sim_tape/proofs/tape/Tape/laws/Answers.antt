use Rattle.std.proofs.Common.{subst}
use Rattle.sim_world.specs.Events.{rules, IsRunnable}
use Rattle.sim_tape.specs.Tape.{Tape}
use Rattle.sim_tape.proofs.tape.Tape.laws.Goals as goal

pub returns-clause-runs : goal.returns-clause-runs
returns-clause-runs g c =
    subst (λ (t : Tape). IsRunnable (rules g.N.Node.laws g.N.Node.PROBES t.scenario) t.events) c.self.view_is c.self.invariant.0.runs
