use Rattle.std.proofs.Common.{◌∷◌, List, ◌∙◌, sym, ap}
use Rattle.sim_events.specs.declared.Event.{Event}
use Rattle.sim_events.specs.declared.Fault.{Fault}
use Rattle.sim_plan.specs.declared.forecast.Forecast.{Forecast}
use Rattle.sim_plan.specs.Owing.{healings}
use Rattle.sim_plan.specs.Forecasting.{yet_planned}
use Rattle.sim_plan.proofs.Plans.{planned_struck, step_planned, word_plans}
use Rattle.sim_plan.proofs.forecast.Forecast.next_planned.Goals as goal

pub returns-in_default-clause-event : goal.returns-in_default-clause-event
returns-in_default-clause-event c = step_planned c.args.self.now c.in_default.is c.requires.some

pub returns-clause-event : goal.returns-clause-event
returns-clause-event c =
    let f = c.args.self.now in
    let by = planned_struck f.servers f.hosts c.in-Some.spacing c.next_word-word.result (healings f.owed) c.if-word-spacing-ne0.false in
    word_plans f c.in-Some.spacing c.next_word-word.result c.next_word-word.new.self c.strike.result c.strike.new.self.owed c.in-Some.is
    c.requires.fine.words c.requires.some c.next_word-word.ensures (c.strike.ensures.event ∙ ap (λ (p : Event × List Fault). p.0) by)
    (c.strike.ensures.owed ∙ ap (λ (p : Event × List Fault). p.1) by)
    ∙ ap (λ (g : Forecast). c.strike.result ∷ yet_planned g) (sym c.strike.ensures.same)
