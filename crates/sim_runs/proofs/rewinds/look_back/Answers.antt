use Rattle.std.proofs.Common.{◌≡◌, ℕ, ◌-◌, ◌≤◌, Option, refl, ap, ◌∙◌, subst, arith}
use Rattle.std.proofs.lemmas.Result.{IfOk-weaker, on_ok_weaker, on_err_weaker}
use Rattle.sim_world.specs.Events.{rules}
use Rattle.sim_tape.specs.Tape.{Tape, IsMoved}
use Rattle.sim_runs.specs.Running.{IsLast, place_found}
use Rattle.sim_runs.specs.declared.rewinds.Found.{Found}
use Rattle.sim_runs.proofs.Running.{on_err}
use Rattle.sim_runs.proofs.Rewinding.{none_so, none_kept, far_last, moved_to, stays, elsewhere, elsewhere_on}
use Rattle.sim_runs.proofs.Looking.{looks_jump, looks_back, moved_looks, far_looked, min_other}
use Rattle.sim_runs.proofs.Undoing.{min_both, near_undone, spent_far, undone_back}
use Rattle.sim_runs.proofs.Reaching.{back_rewound, near_rewound, near_to, far_rewound}
use Rattle.sim_runs.proofs.rewinds.look_back.Goals as goal

pub returns-then-end-eq0-clause-last : goal.returns-then-end-eq0-clause-last
returns-then-end-eq0-clause-last g c =
    let t = c.args.tape.now in
    none_kept g.N.Node.laws g.N.Node.PROBES c.args.watches.now t (t.place - c.args.count) t.place c.args.end c.if-end-eq0.true c.requires.none

pub returns-then-near-count-clause-last : goal.returns-then-near-count-clause-last
returns-then-near-count-clause-last g c =
    let t = c.args.tape.now in
    let all : t.place - c.min-near.result ≡ t.place - c.args.count = ap (λ (n : ℕ). t.place - n) c.if-near-count.true in
    none_so g.N.Node.laws g.N.Node.PROBES c.args.watches.now t (t.place - c.min-near.result) (t.place - c.args.count) t.place all
    (subst (IsLast g.N.Node.laws g.N.Node.PROBES c.args.watches.now t (t.place - c.min-near.result) t.place) c.in_default.is c.in_ok-found.ensures.last)

pub returns-clause-last : goal.returns-clause-last
returns-clause-last g c =
    let t = c.args.tape.now in
    IfOk-weaker c.look_far.result _ _
    (λ f h. far_last g.N.Node.laws g.N.Node.PROBES c.args.watches.now t c.look_near.new.tape c.min-near.result (t.place - c.args.count) (c.place.result - c.args.count) f
    (ap (λ (n : ℕ). n - c.args.count) c.place.ensures.value) c.in_ok-found.field-0 c.in_default.is c.in_ok-found.ensures.moved c.in_ok-found.ensures.last h)
    c.look_far.ensures.last

pub returns-then-end-eq0-clause-looks : goal.returns-then-end-eq0-clause-looks
returns-then-end-eq0-clause-looks g c =
    let W = g.N.Meter.Meter.work in
    let t = c.args.tape.now in
    let r = rules g.N.Node.laws g.N.Node.PROBES t.scenario in
    moved_looks r c.back.new.self.place (t.place - c.args.count) (t.place - t.reach) t (W c.args.meter.now) (W c.back.new.meter) (ap (λ (x : Tape). x.place) c.in_ok-back.ensures.ok)
    (looks_jump r (t.place - c.args.count) (t.place - t.reach) t (W c.args.meter.now) (W c.back.new.meter) c.in_ok-back.ensures.work)

pub returns-in-Some-clause-looks : goal.returns-in-Some-clause-looks
returns-in-Some-clause-looks g c =
    let W = g.N.Meter.Meter.work in
    let t = c.args.tape.now in
    let u = c.look_near.new.tape in
    looks_back (rules g.N.Node.laws g.N.Node.PROBES t.scenario) u.place (t.place - t.reach) (t.place - u.place) u.place t (W c.args.meter.now) (W c.look_near.new.meter) c.in_ok-found.ensures.work

pub returns-then-near-count-clause-looks : goal.returns-then-near-count-clause-looks
returns-then-near-count-clause-looks g c =
    let W = g.N.Meter.Meter.work in
    let t = c.args.tape.now in
    let u = c.look_near.new.tape in
    looks_back (rules g.N.Node.laws g.N.Node.PROBES t.scenario) u.place (t.place - t.reach) (t.place - u.place) u.place t (W c.args.meter.now) (W c.look_near.new.meter) c.in_ok-found.ensures.work

pub returns-clause-looks : goal.returns-clause-looks
returns-clause-looks g c =
    let W = g.N.Meter.Meter.work in
    let t = c.args.tape.now in
    let u = c.look_near.new.tape in
    on_ok_weaker c.look_far.result
    (far_looked g.N.Node.laws g.N.Node.PROBES t u c.look_far.new.tape.place c.min-near.result (W c.args.meter.now) (W c.look_near.new.meter) (W c.look_far.new.meter)
    c.in_ok-found.field-0 c.in_default.is c.in_ok-found.ensures.moved
    (min_other c.args.count c.reach-reach.result c.min-near.result c.min-near.ensures c.if-near-count.false ∙ c.reach-reach.ensures.value) c.in_ok-found.ensures.work)
    c.look_far.ensures.looks

pub look_far-requires-clause-spent : goal.look_far-requires-clause-spent
look_far-requires-clause-spent g c =
    spent_far g.N.Node.laws g.N.Node.PROBES c.args.tape.now c.look_near.new.tape c.min-near.result c.in_ok-found.field-0 c.in_default.is
    (min_other c.args.count c.reach-reach.result c.min-near.result c.min-near.ensures c.if-near-count.false ∙ c.reach-reach.ensures.value)
    c.reach-reach.ensures.within c.in_ok-found.ensures.moved c.in_ok-found.ensures.reach

pub returns-then-end-eq0-clause-undos : goal.returns-then-end-eq0-clause-undos
returns-then-end-eq0-clause-undos g c =
    let W = g.N.Meter.Meter.work in
    let t = c.args.tape.now in
    undone_back (rules g.N.Node.laws g.N.Node.PROBES t.scenario) c.args.count t (W c.args.meter.now) (W c.back.new.meter)
    c.requires.within c.reach-reach.ensures.within c.requires.warm c.in_ok-back.ensures.undos (λ past. (c.in_ok-back.ensures.anew past).undos)

pub returns-in-Some-clause-undos : goal.returns-in-Some-clause-undos
returns-in-Some-clause-undos g c =
    let W = g.N.Meter.Meter.work in
    let near : c.min-near.result ≤ c.args.tape.now.reach = omega (arith, (min_both c.args.count c.reach-reach.result c.min-near.result c.min-near.ensures).1, c.reach-reach.ensures.value) in
    near_undone g.N.Node.laws g.N.Node.PROBES c.args.watches.now c.args.tape.now c.look_near.new.tape c.min-near.result c.in_ok-found.field-0 (W c.args.meter.now) (W c.look_near.new.meter)
    near c.reach-reach.ensures.within c.in_ok-found.ensures.last c.in_ok-found.ensures.moved c.in_ok-found.ensures.work

pub returns-then-near-count-clause-undos : goal.returns-then-near-count-clause-undos
returns-then-near-count-clause-undos g c =
    let W = g.N.Meter.Meter.work in
    let near : c.min-near.result ≤ c.args.tape.now.reach = omega (arith, (min_both c.args.count c.reach-reach.result c.min-near.result c.min-near.ensures).1, c.reach-reach.ensures.value) in
    near_undone g.N.Node.laws g.N.Node.PROBES c.args.watches.now c.args.tape.now c.look_near.new.tape c.min-near.result c.in_ok-found.field-0 (W c.args.meter.now) (W c.look_near.new.meter)
    near c.reach-reach.ensures.within c.in_ok-found.ensures.last c.in_ok-found.ensures.moved c.in_ok-found.ensures.work

pub returns-clause-undos : goal.returns-clause-undos
returns-clause-undos g c =
    let W = g.N.Meter.Meter.work in
    let near : c.min-near.result ≤ c.args.tape.now.reach = omega (arith, (min_both c.args.count c.reach-reach.result c.min-near.result c.min-near.ensures).1, c.reach-reach.ensures.value) in
    let first = near_undone g.N.Node.laws g.N.Node.PROBES c.args.watches.now c.args.tape.now c.look_near.new.tape c.min-near.result c.in_ok-found.field-0 (W c.args.meter.now) (W c.look_near.new.meter)
    near c.reach-reach.ensures.within c.in_ok-found.ensures.last c.in_ok-found.ensures.moved c.in_ok-found.ensures.work in
    on_ok_weaker c.look_far.result (λ same. omega (arith, same, first)) c.look_far.ensures.undos

pub returns-then-end-eq0-clause-reach : goal.returns-then-end-eq0-clause-reach
returns-then-end-eq0-clause-reach g c =
    let t = c.args.tape.now in
    back_rewound t c.back.new.self (t.place - c.args.count) c.requires.warm (omega arith) (ap (λ (x : Tape). x.place) c.in_ok-back.ensures.ok) c.in_ok-back.ensures.reach

pub returns-in-Some-clause-reach : goal.returns-in-Some-clause-reach
returns-in-Some-clause-reach g c =
    let t = c.args.tape.now in
    let u = c.look_near.new.tape in
    let near : c.min-near.result ≤ t.reach = omega (arith, (min_both c.args.count c.reach-reach.result c.min-near.result c.min-near.ensures).1, c.reach-reach.ensures.value) in
    near_rewound t u (t.place - c.args.count) c.requires.warm
    (near_to g.N.Node.laws g.N.Node.PROBES c.args.watches.now t u c.min-near.result c.in_ok-found.field-0 near c.reach-reach.ensures.within c.in_ok-found.ensures.last c.in_ok-found.ensures.moved)
    c.in_ok-found.ensures.reach

pub returns-then-near-count-clause-reach : goal.returns-then-near-count-clause-reach
returns-then-near-count-clause-reach g c =
    let t = c.args.tape.now in
    let u = c.look_near.new.tape in
    let near : c.min-near.result ≤ t.reach = omega (arith, (min_both c.args.count c.reach-reach.result c.min-near.result c.min-near.ensures).1, c.reach-reach.ensures.value) in
    near_rewound t u (t.place - c.args.count) c.requires.warm
    (near_to g.N.Node.laws g.N.Node.PROBES c.args.watches.now t u c.min-near.result c.in_ok-found.field-0 near c.reach-reach.ensures.within c.in_ok-found.ensures.last c.in_ok-found.ensures.moved)
    c.in_ok-found.ensures.reach

pub returns-clause-reach : goal.returns-clause-reach
returns-clause-reach g c =
    let t = c.args.tape.now in
    let u = c.look_near.new.tape in
    let few = (min_both c.args.count c.reach-reach.result c.min-near.result c.min-near.ensures).0 in
    let same = min_other c.args.count c.reach-reach.result c.min-near.result c.min-near.ensures c.if-near-count.false ∙ c.reach-reach.ensures.value in
    let none = spent_far g.N.Node.laws g.N.Node.PROBES t u c.min-near.result c.in_ok-found.field-0 c.in_default.is same c.reach-reach.ensures.within c.in_ok-found.ensures.moved c.in_ok-found.ensures.reach in
    let place : u.place ≡ t.place - c.min-near.result = ap (λ (x : Tape). x.place) c.in_ok-found.ensures.moved ∙ ap (place_found (t.place - c.min-near.result)) c.in_default.is in
    far_rewound g.N.Node.laws g.N.Node.PROBES c.args.watches.now t u c.look_far.new.tape c.min-near.result (t.place - c.args.count) (c.place.result - c.args.count) c.in_ok-found.field-0 c.look_far.result
    c.requires.warm c.in_default.is same c.in_ok-found.ensures.moved none c.reach-reach.ensures.within (ap (λ (n : ℕ). n - c.args.count) c.place.ensures.value)
    (omega (arith, place, few, c.place.ensures.value)) c.look_far.ensures.last c.look_far.ensures.moved c.look_far.ensures.reach

pub returns-then-end-eq0-clause-moved : goal.returns-then-end-eq0-clause-moved
returns-then-end-eq0-clause-moved g c = c.in_ok-back.ensures.ok

pub returns-in-Some-clause-moved : goal.returns-in-Some-clause-moved
returns-in-Some-clause-moved g c =
    let t = c.args.tape.now in
    subst (λ (o : Option Found). IsMoved (place_found (t.place - c.min-near.result) o) t c.look_near.new.tape) c.in-Some.is c.in_ok-found.ensures.moved

pub returns-then-near-count-clause-moved : goal.returns-then-near-count-clause-moved
returns-then-near-count-clause-moved g c =
    let t = c.args.tape.now in
    let u = c.look_near.new.tape in
    subst (λ (n : ℕ). IsMoved (t.place - n) t u) c.if-near-count.true
    (subst (λ (o : Option Found). IsMoved (place_found (t.place - c.min-near.result) o) t u) c.in_default.is c.in_ok-found.ensures.moved)

pub returns-clause-moved : goal.returns-clause-moved
returns-clause-moved g c =
    let t = c.args.tape.now in
    let u = c.look_near.new.tape in
    let near : ℕ = t.place - c.min-near.result in
    let there = subst (λ (o : Option Found). IsMoved (place_found near o) t u) c.in_default.is c.in_ok-found.ensures.moved in
    let to : c.place.result - c.args.count ≡ t.place - c.args.count = ap (λ (n : ℕ). n - c.args.count) c.place.ensures.value in
    IfOk-weaker c.look_far.result _ _
    (λ f h. subst (λ (m : ℕ). IsMoved (place_found m f) t c.look_far.new.tape) to (moved_to t u c.look_far.new.tape near (place_found (c.place.result - c.args.count) f) there h))
    c.look_far.ensures.moved

pub returns-in_err-back-clause-err : goal.returns-in_err-back-clause-err
returns-in_err-back-clause-err g c =
    let t = c.args.tape.now in
    on_err c.from_residual.result (elsewhere t t c.back.new.self t.place (stays t t.place c.requires.warm refl) c.in_err-back.ensures.err)

pub returns-in_err-found-clause-err : goal.returns-in_err-found-clause-err
returns-in_err-found-clause-err g c = on_err c.from_residual-in_err-found.result c.in_err-found.ensures.err

pub returns-clause-err : goal.returns-clause-err
returns-clause-err g c =
    let t = c.args.tape.now in
    let u = c.look_near.new.tape in
    let near : ℕ = t.place - c.min-near.result in
    let there = subst (λ (o : Option Found). IsMoved (place_found near o) t u) c.in_default.is c.in_ok-found.ensures.moved in
    on_err_weaker c.look_far.result (elsewhere_on t u c.look_far.new.tape near there) c.look_far.ensures.err
