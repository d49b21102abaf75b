use Rattle.std.proofs.Common.{◌≡◌, ◌≤◌, None, List, Bool, length, sym, ap, ◌∙◌, subst, arith}
use Rattle.sim_events.specs.declared.Event.{Event}
use Rattle.sim_events.specs.Scenario.{Scenario}
use Rattle.sim_world.specs.Events.{rules}
use Rattle.sim_watch.specs.Condition.{Cond}
use Rattle.sim_shrink.specs.Choices.{kept_by}
use Rattle.sim_shrink.specs.Shrunk.{failing, IsFailingRun, IsMinimal}
use Rattle.sim_shrink.specs.Passing.{StillFails}
use Rattle.sim_shrink.proofs.Kept.{kept_short}
use Rattle.sim_shrink.proofs.Failing.{run_short, fails_still, none_fails, shrunk_is, moved, answer_then}
use Rattle.sim_shrink.proofs.shrinking.smallest.Goals as goal

pub with_events-case-requires : goal.with_events-case-requires
with_events-case-requires g c =
    let case = c.args.case.now in
    let r = rules g.N.Node.laws g.N.Node.PROBES case.scenario.now in
    let run = rw c.in-Some.is at c.in_ok-whole.ensures in
    let short : length c.in-Some.whole.items ≤ length case.events.now = run_short r case.cond.now case.events.now c.in-Some.whole.items run in
    let same : length c.deref.result.now ≡ length c.in-Some.whole.items = ap length c.deref.ensures.value in
    omega (arith, short, same)

pub halve-requires : goal.halve-requires
halve-requires g c =
    let node = g.N.Node.laws in
    let probes = g.N.Node.PROBES in
    let case = c.args.case.now in
    let made = c.with_events-case.result in
    let whole = c.in-Some.whole.items in
    let stays = c.in_ok-choice.choice.stays.items in
    let run = rw c.in-Some.is at c.in_ok-whole.ensures in
    let all : kept_by stays whole ≡ whole = subst (λ (xs : List Event). kept_by stays xs ≡ xs) c.deref-2.ensures.value c.in_ok-choice.ensures in record {
      fails =
          moved (λ (s : Scenario) (d : Cond) (es : List Event). StillFails (rules node probes s) d es stays) case.scenario.now made.scenario.now case.cond.now made.cond.now whole made.events.now
          (sym c.with_events-case.ensures.scenario) (sym c.with_events-case.ensures.cond) (sym (c.with_events-case.ensures.events ∙ c.deref.ensures.value))
          (fails_still (rules node probes case.scenario.now) case.cond.now case.events.now whole stays run all);
    }

pub with_events-requires : goal.with_events-requires
with_events-requires g c =
    let made = c.with_events-case.result in
    let stays = c.in_ok-choice-3.choice.stays.items in
    let whole = c.in-Some.whole.items in
    let left : length c.deref-5.result.now ≡ length (kept_by stays whole) =
    ap length (c.deref-5.ensures.value ∙ c.in_ok-left.ensures ∙ ap (λ (xs : List Bool). kept_by xs c.deref-4.result.now) c.deref-3.ensures.value ∙ ap (kept_by stays) c.deref-4.ensures.value) in
    let short : length (kept_by stays whole) ≤ length whole = kept_short stays whole in
    let same : length made.events.now ≡ length whole = ap length (c.with_events-case.ensures.events ∙ c.deref.ensures.value) in
    omega (arith, left, short, same)

pub returns : goal.returns
returns g c =
    let node = g.N.Node.laws in
    let probes = g.N.Node.PROBES in
    let case = c.args.case.now in
    let made = c.with_events-case.result in
    let last = c.with_events.result in
    let r = rules node probes case.scenario.now in
    let d = case.cond.now in
    let whole = c.in-Some.whole.items in
    let stays = c.in_ok-choice-3.choice.stays.items in
    let run = rw c.in-Some.is at c.in_ok-whole.ensures in
    let events : last.events.now ≡ kept_by stays whole =
    c.with_events.ensures.events ∙ c.deref-5.ensures.value ∙ c.in_ok-left.ensures ∙ ap (λ (xs : List Bool). kept_by xs c.deref-4.result.now) c.deref-3.ensures.value
    ∙ ap (kept_by stays) c.deref-4.ensures.value in
    let wholes : made.events.now ≡ whole = c.with_events-case.ensures.events ∙ c.deref.ensures.value in
    let fails =
    moved (λ (s : Scenario) (x : Cond) (es : List Event). StillFails (rules node probes s) x es stays) made.scenario.now case.scenario.now made.cond.now d made.events.now whole
    c.with_events-case.ensures.scenario c.with_events-case.ensures.cond wholes c.in_ok-choice-3.ensures.fails in
    let minimal =
    moved (λ (s : Scenario) (x : Cond) (es : List Event). IsMinimal (rules node probes s) x es stays) made.scenario.now case.scenario.now made.cond.now d made.events.now whole
    c.with_events-case.ensures.scenario c.with_events-case.ensures.cond wholes c.in_ok-choice-3.ensures.minimal in
    let scenario = c.with_events.ensures.scenario ∙ c.with_events-case.ensures.scenario in
    let cond = c.with_events.ensures.cond ∙ c.with_events-case.ensures.cond in
    answer_then c.failing_run-2.result _ _ _ _
    (λ none. none_fails r d whole stays _ fails
    (moved (λ (s : Scenario) (x : Cond) (es : List Event). failing (rules node probes s) x es ≡ None) last.scenario.now case.scenario.now last.cond.now d last.events.now (kept_by stays whole)
    scenario cond events none))
    (λ v h. shrunk_is r d case.events.now whole v.items stays run
    (moved (λ (s : Scenario) (x : Cond) (es : List Event). IsFailingRun (rules node probes s) x es v.items) last.scenario.now case.scenario.now last.cond.now d last.events.now (kept_by stays whole)
    scenario cond events h) minimal)
    c.failing_run-2.ensures
