use Rattle.std.proofs.Common.{◌≡◌, ℕ, ◌≤◌, IfOk, List, Option, length, ap, ◌∙◌, subst, arith}
use Rattle.sim_events.specs.declared.Event.{Event}
use Rattle.sim_world.specs.Events.{rules}
use Rattle.sim_shrink.specs.Choices.{kept_by}
use Rattle.sim_shrink.specs.Shrunk.{failing}
use Rattle.sim_shrink.proofs.Kept.{kept_short}
use Rattle.sim_shrink.proofs.case.Case.trial.Goals as goal

pub scan_planned-requires-clause-few : goal.scan_planned-requires-clause-few
scan_planned-requires-clause-few g c =
    let case = c.args.self.now in
    let long : length c.of_events-planner.result ≡ length (kept_by c.args.stays.now case.events.now) = ap length (c.of_events-planner.ensures ∙ c.deref.ensures.value ∙ c.in_ok-left.ensures) in
    let short : length (kept_by c.args.stays.now case.events.now) ≤ length case.events.now = kept_short c.args.stays.now case.events.now in
    let few : length case.events.now ≤ 65536 = case.few in
    omega (arith, long, short, few)

pub returns : goal.returns
returns g c =
    let case = c.args.self.now in
    let r = rules g.N.Node.laws g.N.Node.PROBES case.scenario.now in
    subst (λ (es : List Event). IfOk c.scan_planned.result (λ (found : Option ℕ). found ≡ failing r case.cond.now es))
    (c.of_events-planner.ensures ∙ c.deref.ensures.value ∙ c.in_ok-left.ensures) c.scan_planned.ensures.place
