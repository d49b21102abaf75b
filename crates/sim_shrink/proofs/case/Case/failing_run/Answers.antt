use Rattle.std.proofs.Common.{List, take, sym, ap, ◌∙◌}
use Rattle.sim_events.specs.declared.Event.{Event}
use Rattle.sim_world.specs.Events.{rules}
use Rattle.sim_shrink.specs.Shrunk.{run_by, failing}
use Rattle.sim_shrink.proofs.case.Case.failing_run.Goals as goal

pub returns-in-None : goal.returns-in-None
returns-in-None g c =
    let case = c.args.self.now in
    let r = rules g.N.Node.laws g.N.Node.PROBES case.scenario.now in
    ap (failing r case.cond.now) (sym c.of_events-planner.ensures) ∙ sym c.in_ok-found.ensures.place ∙ c.in-None.is

pub returns : goal.returns
returns g c =
    let case = c.args.self.now in
    let r = rules g.N.Node.laws g.N.Node.PROBES case.scenario.now in record {
      place = c.in-Some.place;
      first = ap (failing r case.cond.now) (sym c.of_events-planner.ensures) ∙ sym c.in_ok-found.ensures.place ∙ c.in-Some.is;
      cut =
          c.truncate.ensures.items
          ∙ ap (λ (es : List Event). take c.in-Some.place es) (c.in_ok-run.ensures ∙ ap (run_by r) c.of_events-planner-2.ensures);
    }
