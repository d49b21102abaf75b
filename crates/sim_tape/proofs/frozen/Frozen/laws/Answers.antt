use Rattle.std.proofs.Common.{sym, subst}
use Rattle.sim_world.specs.Events.{rules, IsRunnable}
use Rattle.sim_tape.specs.Tape.{Frozen}
use Rattle.sim_tape.proofs.frozen.Frozen.laws.Goals as goal

pub returns : goal.returns
returns g c =
    let i = c.self.inside in
    subst (λ (f : Frozen). IsRunnable (rules g.N.Node.laws g.N.Node.PROBES f.scenario) f.events) c.self.view_is
    (subst (IsRunnable (rules g.N.Node.laws g.N.Node.PROBES i.log.scenario)) (sym c.self.invariant.2) c.self.invariant.0.runs)
