use Rattle.std.proofs.Common.{◌≡◌, ℕ, ◌+◌, ◌-◌, ◌<◌, ◌≤◌, ◌%◌, true, Option, Some, inl, refl, sym, ap, ◌∙◌, subst, arith}
use Rattle.sim_world.specs.Events.{rules}
use Rattle.sim_tape.specs.Tape.{Tape, with_world, at}
use Rattle.sim_runs.specs.Reach.{reach_rewound}
use Rattle.sim_runs.specs.declared.rewinds.Found.{Found}
use Rattle.sim_runs.specs.Works.{Looks}
use Rattle.sim_runs.specs.Running.{IsLast, IsPast, IsLooked}
use Rattle.sim_runs.proofs.Running.{on_err}
use Rattle.sim_runs.proofs.Rewinding.{none_so, past_none, stretch_on, past_more, last_lower, moved_to, elsewhere, elsewhere_on}
use Rattle.sim_runs.proofs.Looking.{looked_none, looked_all, jump_on, stretch_looked, found_looked}
use Rattle.sim_runs.proofs.Undoing.{not_within, spent_now, spent_more, spent_found, spent_end, undone_to}
use Rattle.sim_runs.proofs.Reaching.{jump_reach, stretch_reach, found_reach, end_of_rewind}
use Rattle.sim_tape.proofs.Turning.{not_ahead}
use Rattle.sim_runs.proofs.rewinds.look_far.Goals as goal

pub loop-high-init : goal.loop-high-init
loop-high-init g c =
    let t = c.args.tape.now in
    let r = rules g.N.Node.laws g.N.Node.PROBES t.scenario in
    let w = g.N.Meter.Meter.work c.args.meter.now in (
      subst (λ (n : ℕ). IsPast g.N.Node.laws g.N.Node.PROBES c.args.watches.now t c.args.to n t) (sym c.place-high.ensures.value)
          (past_none g.N.Node.laws g.N.Node.PROBES c.args.watches.now t c.args.to c.requires.warm c.requires.within),
      subst (λ (n : ℕ). IsLooked r c.args.to n t.place t.events w w) (sym c.place-high.ensures.value) (looked_none r c.args.to t.place t.events w),
      inl c.requires.spent,
      refl,
      (λ _. refl, λ less. absurd (omega (arith, less, c.place-high.ensures.value))),
    )

pub returns-in-Some-clause-last : goal.returns-in-Some-clause-last
returns-in-Some-clause-last g c =
    let low : ℕ = c.stretch_below-low.result in
    let n : ℕ = c.loop-high.high - 1 - low in
    let v = c.goto.new.self in
    let last = subst (λ (o : Option Found). IsLast g.N.Node.laws g.N.Node.PROBES c.args.watches.now v v.place (v.place + n + 1) o) c.in-Some.is c.in_ok-found.ensures.last in
    last_lower g.N.Node.laws g.N.Node.PROBES c.args.watches.now c.args.tape.now c.args.to low c.args.tape.now.place (Some c.in-Some.found) c.stretch_below-low.ensures.from
    (stretch_on g.N.Node.laws g.N.Node.PROBES c.args.watches.now c.args.tape.now c.loop-high.tape v c.args.to low c.loop-high.high n (Some c.in-Some.found) c.loop-high.invariant.0
    c.in_ok-goto.ensures.ok (omega (arith, c.stretch_below-low.ensures.below)) last)
    (λ e. absurd cc)

pub returns-in-Some-clause-looks : goal.returns-in-Some-clause-looks
returns-in-Some-clause-looks g c =
    let W = g.N.Meter.Meter.work in
    let node = g.N.Node.laws in
    let probes = g.N.Node.PROBES in
    let t = c.args.tape.now in
    let u = c.loop-high.tape in
    let v = c.goto.new.self in
    let low : ℕ = c.stretch_below-low.result in
    let high : ℕ = c.loop-high.high in
    let n : ℕ = high - 1 - low in
    let k : ℕ = c.interval-interval.result in
    let past = c.loop-high.invariant.0 in
    let ends : low + n + 1 ≡ high = omega (arith, c.stretch_below-low.ensures.below) in
    let last = subst (λ (o : Option Found). IsLast node probes c.args.watches.now v v.place (v.place + n + 1) o) c.in-Some.is c.in_ok-found.ensures.last in
    let from : v.place ≤ c.in-Some.found.place = last.from in
    let below : c.in-Some.found.place < v.place + n + 1 = last.below in
    let start = moved_to t u v u.place low past.new c.in_ok-goto.ensures.ok in
    let place : v.place ≡ low = ap (λ (x : Tape). x.place) start in
    found_looked node probes t v c.last_failing.new.tape c.goto-in-Some.new.self c.args.to low high n c.in-Some.found.place k (v.place + n) (W c.args.meter.now) (W c.last_failing.new.meter) (W c.goto-in-Some.new.meter)
    c.interval-interval.ensures.some c.interval-interval.ensures.value past.below c.stretch_below-low.ensures.same start c.in_ok-found.ensures.moved c.in_ok-goto-2.ensures.ok
    (omega (arith, place, from)) (omega (arith, place, below, ends))
    (stretch_looked node probes t u c.args.to low high n k (u.place - low) (W c.args.meter.now) (W c.loop-high.meter) (W c.goto.new.meter) (W c.last_failing.new.meter)
    c.interval-interval.ensures.some c.interval-interval.ensures.value past.new past.ahead past.below c.loop-high-test.true c.stretch_below-low.ensures.below c.stretch_below-low.ensures.same
    c.stretch_below-low.ensures.whole c.loop-high.invariant.1 c.in_ok-goto.ensures.undos c.in_ok-goto.ensures.past ends c.in_ok-found.ensures.work)
    c.in_ok-goto-2.ensures.work

pub loop-high-preserved : goal.loop-high-preserved
loop-high-preserved g c =
    let W = g.N.Meter.Meter.work in
    let node = g.N.Node.laws in
    let probes = g.N.Node.PROBES in
    let t = c.args.tape.now in
    let u = c.loop-high.tape in
    let low : ℕ = c.stretch_below-low.result in
    let high : ℕ = c.loop-high.high in
    let n : ℕ = high - 1 - low in
    let k : ℕ = c.interval-interval.result in
    let past = c.loop-high.invariant.0 in
    let v = c.goto.new.self in
    let w = c.last_failing.new.tape in
    let under : low < u.place = omega (arith, c.stretch_below-low.ensures.below, past.ahead) in
    let out = not_within low u (spent_now c.args.to high u c.loop-high.invariant.2 c.loop-high-test.true) under in
    let behind = not_ahead low u (omega (arith, under)) in
    let place : w.place ≡ low + n = ap (λ (x : Tape). x.place) c.in_ok-found.ensures.moved ∙ ap (λ (x : Tape). x.place + n) c.in_ok-goto.ensures.ok in
    let every : k ≡ u.scenario.interval = c.interval-interval.ensures.value ∙ sym (ap (λ (x : Tape). x.scenario.interval) past.new) in
    let whole = subst (λ (m : ℕ). c.args.to < low → low % m ≡ 0) every c.stretch_below-low.ensures.whole in
    let ends : low + n + 1 ≡ high = omega (arith, c.stretch_below-low.ensures.below) in (
      past_more node probes c.args.watches.now t u c.goto.new.self c.last_failing.new.tape c.args.to low high n
          c.in_ok-found.field-0 past c.in_ok-goto.ensures.ok ends c.stretch_below-low.ensures.from
          c.in_ok-found.ensures.last c.in_default.is c.in_ok-found.ensures.moved,
      stretch_looked node probes t u c.args.to low high n k (u.place - low) (W c.args.meter.now) (W c.loop-high.meter) (W c.goto.new.meter) (W c.last_failing.new.meter)
          c.interval-interval.ensures.some c.interval-interval.ensures.value past.new past.ahead past.below c.loop-high-test.true c.stretch_below-low.ensures.below c.stretch_below-low.ensures.same
          c.stretch_below-low.ensures.whole c.loop-high.invariant.1 c.in_ok-goto.ensures.undos c.in_ok-goto.ensures.past ends c.in_ok-found.ensures.work,
      spent_more c.args.to low n u v w out behind c.in_ok-goto.ensures.reach whole c.in_ok-found.ensures.spent c.in_ok-found.ensures.still place c.stretch_below-low.ensures.from,
      c.in_ok-found.ensures.work.undos ∙ (c.in_ok-goto.ensures.past out behind).undos ∙ c.loop-high.invariant.3,
      stretch_reach t v w low high n (jump_reach t u v low past.new (spent_now c.args.to high u c.loop-high.invariant.2 c.loop-high-test.true) under c.in_ok-goto.ensures.reach)
          place c.in_ok-found.ensures.still c.stretch_below-low.ensures.below past.below,
    )

pub returns-clause-last : goal.returns-clause-last
returns-clause-last g c =
    none_so g.N.Node.laws g.N.Node.PROBES c.args.watches.now c.args.tape.now c.loop-high.high c.args.to c.args.tape.now.place
    (omega (arith, c.loop-high-test.false, c.loop-high.invariant.0.from)) c.loop-high.invariant.0.none

pub returns-clause-looks : goal.returns-clause-looks
returns-clause-looks g c =
    let W = g.N.Meter.Meter.work in
    let t = c.args.tape.now in
    let u = c.loop-high.tape in
    let r = rules g.N.Node.laws g.N.Node.PROBES t.scenario in
    let past = c.loop-high.invariant.0 in
    let end : c.loop-high.high ≡ c.args.to = omega (arith, c.loop-high-test.false, past.from) in
    let place = ap (λ (x : Tape). x.place) c.in_ok-goto-3.ensures.ok in
    let looked = subst (λ (m : ℕ). IsLooked r c.args.to m t.place t.events (W c.args.meter.now) (W c.loop-high.meter)) end c.loop-high.invariant.1 in
    subst (λ (m : ℕ). Looks r m t.place t (W c.args.meter.now) (W c.goto-2.new.meter)) (sym place)
    (looked_all r c.args.to t.place t (W c.args.meter.now) (W c.loop-high.meter) (W c.goto-2.new.meter) looked
    (jump_on g.N.Node.laws g.N.Node.PROBES t u u.place c.args.to (W c.loop-high.meter) (W c.goto-2.new.meter) past.new c.in_ok-goto-3.ensures.work))

pub returns-in-Some-clause-undos : goal.returns-in-Some-clause-undos
returns-in-Some-clause-undos g c =
    let W = g.N.Meter.Meter.work in
    let u = c.loop-high.tape in
    let v = c.goto.new.self in
    let w = c.last_failing.new.tape in
    let low : ℕ = c.stretch_below-low.result in
    let high : ℕ = c.loop-high.high in
    let n : ℕ = high - 1 - low in
    let p = c.in-Some.found.place in
    let past = c.loop-high.invariant.0 in
    let under : low < u.place = omega (arith, c.stretch_below-low.ensures.below, past.ahead) in
    let out = not_within low u (spent_now c.args.to high u c.loop-high.invariant.2 c.loop-high-test.true) under in
    let behind = not_ahead low u (omega (arith, under)) in
    let start : v.place ≡ low = ap (λ (x : Tape). x.place) c.in_ok-goto.ensures.ok in
    let place : w.place ≡ low + n = ap (λ (x : Tape). x.place) c.in_ok-found.ensures.moved ∙ ap (λ (x : Tape). x.place + n) c.in_ok-goto.ensures.ok in
    let last = subst (λ (o : Option Found). IsLast g.N.Node.laws g.N.Node.PROBES c.args.watches.now v v.place (v.place + n + 1) o) c.in-Some.is c.in_ok-found.ensures.last in
    let from : low ≤ p = omega (arith, last.from, start) in
    let below : p < low + n + 1 = omega (arith, last.below, start) in
    undone_to p w (W c.last_failing.new.meter) (W c.goto-in-Some.new.meter) (ap (λ (x : Tape). x.warm) c.in_ok-found.ensures.moved) (omega (arith, place, below))
    (spent_found p low n w c.in_ok-found.ensures.spent place from below)
    (λ warm same. (c.in_ok-goto-2.ensures.here warm same).2) (λ x y. (c.in_ok-goto-2.ensures.past x y).undos)
    ∙ c.in_ok-found.ensures.work.undos ∙ (c.in_ok-goto.ensures.past out behind).undos ∙ c.loop-high.invariant.3

pub returns-clause-undos : goal.returns-clause-undos
returns-clause-undos g c =
    let W = g.N.Meter.Meter.work in
    let u = c.loop-high.tape in
    let past = c.loop-high.invariant.0 in
    let end : c.loop-high.high ≡ c.args.to = omega (arith, c.loop-high-test.false, past.from) in
    undone_to c.args.to u (W c.loop-high.meter) (W c.goto-2.new.meter) (ap (λ (x : Tape). x.warm) past.new) (omega (arith, end, past.ahead))
    (spent_end c.args.to c.loop-high.high u c.loop-high.invariant.2 end)
    (λ warm same. (c.in_ok-goto-3.ensures.here warm same).2) (λ x y. (c.in_ok-goto-3.ensures.past x y).undos)
    ∙ c.loop-high.invariant.3

pub returns-in-Some-clause-reach : goal.returns-in-Some-clause-reach
returns-in-Some-clause-reach g c =
    let t = c.args.tape.now in
    let u = c.loop-high.tape in
    let v = c.goto.new.self in
    let w = c.last_failing.new.tape in
    let x = c.goto-in-Some.new.self in
    let low : ℕ = c.stretch_below-low.result in
    let high : ℕ = c.loop-high.high in
    let n : ℕ = high - 1 - low in
    let p = c.in-Some.found.place in
    let past = c.loop-high.invariant.0 in
    let ends : low + n + 1 ≡ high = omega (arith, c.stretch_below-low.ensures.below) in
    let under : low < u.place = omega (arith, c.stretch_below-low.ensures.below, past.ahead) in
    let start = moved_to t u v u.place low past.new c.in_ok-goto.ensures.ok in
    let place : v.place ≡ low = ap (λ (y : Tape). y.place) start in
    let there = moved_to t v w low (v.place + n) start c.in_ok-found.ensures.moved ∙ ap (λ (q : ℕ). with_world true w.reach (at (q + n) t)) place in
    let last = subst (λ (o : Option Found). IsLast g.N.Node.laws g.N.Node.PROBES c.args.watches.now v v.place (v.place + n + 1) o) c.in-Some.is c.in_ok-found.ensures.last in
    let from : low ≤ p = omega (arith, last.from, place) in
    let below : p < high = omega (arith, last.below, place, ends) in
    let end : x.place ≡ p = ap (λ (y : Tape). y.place) c.in_ok-goto-2.ensures.ok in
    let k : ℕ = c.interval-interval.result in
    found_reach t v w x c.args.to low high n p k
    c.interval-interval.ensures.some c.interval-interval.ensures.value c.requires.warm c.requires.spent ends past.below (λ less. c.loop-high.invariant.1.whole less c.loop-high-test.true)
    c.stretch_below-low.ensures.same c.stretch_below-low.ensures.from c.stretch_below-low.ensures.whole
    (jump_reach t u v low past.new (spent_now c.args.to high u c.loop-high.invariant.2 c.loop-high-test.true) under c.in_ok-goto.ensures.reach)
    there c.in_ok-found.ensures.spent c.in_ok-found.ensures.still (λ warm same. (c.in_ok-goto-2.ensures.here warm same).1) c.in_ok-goto-2.ensures.reach from below
    ∙ ap (λ (q : ℕ). reach_rewound c.args.to q t) (sym end)

pub returns-clause-reach : goal.returns-clause-reach
returns-clause-reach g c =
    let t = c.args.tape.now in
    let u = c.loop-high.tape in
    let x = c.goto-2.new.self in
    let past = c.loop-high.invariant.0 in
    let end : c.loop-high.high ≡ c.args.to = omega (arith, c.loop-high-test.false, past.from) in
    let there : x.place ≡ c.args.to = ap (λ (y : Tape). y.place) c.in_ok-goto-3.ensures.ok in
    end_of_rewind t u x c.args.to c.loop-high.high c.requires.warm c.requires.spent past.new end past.ahead past.below c.loop-high.invariant.4
    (spent_end c.args.to c.loop-high.high u c.loop-high.invariant.2 end) (λ warm same. (c.in_ok-goto-3.ensures.here warm same).1) c.in_ok-goto-3.ensures.reach
    ∙ ap (λ (q : ℕ). reach_rewound c.args.to q t) (sym there)

pub returns-in-Some-clause-moved : goal.returns-in-Some-clause-moved
returns-in-Some-clause-moved g c =
    let t = c.args.tape.now in
    let u = c.loop-high.tape in
    let v = c.goto.new.self in
    let w = c.last_failing.new.tape in
    let n : ℕ = c.loop-high.high - 1 - c.stretch_below-low.result in
    let start = moved_to t u v u.place c.stretch_below-low.result c.loop-high.invariant.0.new c.in_ok-goto.ensures.ok in
    let there = moved_to t v w c.stretch_below-low.result (v.place + n) start c.in_ok-found.ensures.moved in
    moved_to t w c.goto-in-Some.new.self (v.place + n) c.in-Some.found.place there c.in_ok-goto-2.ensures.ok

pub returns-clause-moved : goal.returns-clause-moved
returns-clause-moved g c =
    moved_to c.args.tape.now c.loop-high.tape c.goto-2.new.self c.loop-high.tape.place c.args.to c.loop-high.invariant.0.new c.in_ok-goto-3.ensures.ok

pub returns-in_err-goto-clause-err : goal.returns-in_err-goto-clause-err
returns-in_err-goto-clause-err g c =
    on_err c.from_residual.result (elsewhere c.args.tape.now c.loop-high.tape c.goto.new.self c.loop-high.tape.place c.loop-high.invariant.0.new c.in_err-goto.ensures.err)

pub returns-in_err-goto-3-clause-err : goal.returns-in_err-goto-3-clause-err
returns-in_err-goto-3-clause-err g c =
    on_err c.from_residual-in_err-goto-3.result (elsewhere c.args.tape.now c.loop-high.tape c.goto-2.new.self c.loop-high.tape.place c.loop-high.invariant.0.new c.in_err-goto-3.ensures.err)

pub returns-in_err-found-clause-err : goal.returns-in_err-found-clause-err
returns-in_err-found-clause-err g c =
    let t = c.args.tape.now in
    let u = c.loop-high.tape in
    let v = c.goto.new.self in
    let start = moved_to t u v u.place c.stretch_below-low.result c.loop-high.invariant.0.new c.in_ok-goto.ensures.ok in
    on_err c.from_residual-in_err-found.result (elsewhere_on t v c.last_failing.new.tape c.stretch_below-low.result start c.in_err-found.ensures.err)

pub returns-in_err-goto-2-clause-err : goal.returns-in_err-goto-2-clause-err
returns-in_err-goto-2-clause-err g c =
    let t = c.args.tape.now in
    let u = c.loop-high.tape in
    let v = c.goto.new.self in
    let w = c.last_failing.new.tape in
    let n : ℕ = c.loop-high.high - 1 - c.stretch_below-low.result in
    let start = moved_to t u v u.place c.stretch_below-low.result c.loop-high.invariant.0.new c.in_ok-goto.ensures.ok in
    let there = moved_to t v w c.stretch_below-low.result (v.place + n) start c.in_ok-found.ensures.moved in
    on_err c.from_residual-in_err-goto-2.result (elsewhere t w c.goto-in-Some.new.self (v.place + n) there c.in_err-goto-2.ensures.err)
