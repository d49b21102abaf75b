use Rattle.std.proofs.Common.{Some, sym, ap, ◌∙◌}
use Rattle.sim_tape.specs.Works.{rules_of}
use Rattle.sim_tape.proofs.Stepping.{steps_change}
use Rattle.sim_tape.proofs.tape.Tape.next_host.Goals as goal

pub returns-in-Step : goal.returns-in-Step
returns-in-Step g c =
    let t = c.args.self.now in
    steps_change (rules_of g.N.Node.laws g.N.Node.PROBES t) t.events t.place c.here.result.now.world c.first_host.result c.laws.ensures.runs (sym c.next_event.ensures ∙ c.in_ok-next_event.was ∙ ap Some c.in-Step.is) c.here.ensures.run c.first_host.ensures
