use Rattle.std.proofs.Common.{◌≡◌, ◌==◌, ℕ, ◌+◌, ◌-◌, true, false, sym, ap, ◌∙◌, arith}
use Rattle.sim_tape.specs.Tape.{Tape, with_world, at}
use Rattle.sim_runs.proofs.Rewinding.{moved_back, reach_back, rewound_reach, rewinding_none, rewinding_more, rewound_near, none_so, work_none, work_back, rewound_work}
use Rattle.sim_runs.proofs.Skipping.{none_before}
use Rattle.sim_runs.proofs.rewinds.look_near.Goals as goal
use Rattle.sim_runs.proofs.rewinds.look_near.Goals.{then-done-eq0, else-done-eq0}

pub loop-done-init : goal.loop-done-init
loop-done-init g c =
    (rewinding_none g.N.Node.laws g.N.Node.PROBES c.args.watches.now c.args.tape.now c.requires.warm, work_none g.N.Node.laws g.N.Node.PROBES c.args.tape.now (g.N.Meter.Meter.work c.args.meter.now))

pub back-requires : goal.back-requires
back-requires g c =
    let place = ap (λ (t : Tape). t.place) c.loop-done.invariant.0.new in
    omega (arith, place, c.loop-done-test.true, c.requires.within)

pub loop-done-preserved : goal.loop-done-preserved
loop-done-preserved g c =
    let W = g.N.Meter.Meter.work in (
      rewinding_more g.N.Node.laws g.N.Node.PROBES c.args.watches.now c.args.tape.now c.loop-done.tape c.back.new.self c.loop-done.done c.found_here.result c.loop-done.invariant.0
          (omega (arith, c.loop-done-test.true, c.requires.within)) c.in_ok-back.ensures.ok
          (reach_back c.args.tape.now c.loop-done.tape c.back.new.self c.loop-done.done c.loop-done.invariant.0.new c.loop-done.invariant.0.reach c.in_ok-back.ensures.within
          (omega (arith, c.loop-done-test.true, c.requires.near)))
          c.in_default.is c.found_here.ensures,
      work_back g.N.Node.laws g.N.Node.PROBES c.args.tape.now c.loop-done.tape c.back.new.self c.loop-done.done (W c.args.meter.now) (W c.loop-done.meter) (W c.back.new.meter) c.loop-done.invariant.0.new
          (omega (arith, c.loop-done-test.true, c.requires.within)) c.loop-done.invariant.0.reach c.loop-done.invariant.1 c.in_ok-back.ensures.undos (omega (arith, c.loop-done-test.true, c.requires.near)),
    )

pub returns-in-Some-clause-last : goal.returns-in-Some-clause-last
returns-in-Some-clause-last g c =
    (rewound_near g.N.Node.laws g.N.Node.PROBES c.args.count c.args.watches.now c.args.tape.now c.loop-done.tape c.back.new.self c.loop-done.done c.in-Some.found c.loop-done.invariant.0
    c.loop-done-test.true c.requires.within c.in_ok-back.ensures.ok (sym c.in-Some.is ∙ c.found_here.ensures)).0

pub returns-in-Some-clause-moved : goal.returns-in-Some-clause-moved
returns-in-Some-clause-moved g c =
    let near = rewound_near g.N.Node.laws g.N.Node.PROBES c.args.count c.args.watches.now c.args.tape.now c.loop-done.tape c.back.new.self c.loop-done.done c.in-Some.found c.loop-done.invariant.0
    c.loop-done-test.true c.requires.within c.in_ok-back.ensures.ok (sym c.in-Some.is ∙ c.found_here.ensures) in
    moved_back c.args.tape.now c.loop-done.tape c.back.new.self c.loop-done.done c.loop-done.invariant.0.new c.in_ok-back.ensures.ok
    ∙ ap (λ p. with_world true c.back.new.self.reach (at p c.args.tape.now)) (sym near.1)

pub returns-in-Some-clause-reach : goal.returns-in-Some-clause-reach
returns-in-Some-clause-reach g c =
    rewound_reach c.args.tape.now c.back.new.self (c.loop-done.done + 1)
    (moved_back c.args.tape.now c.loop-done.tape c.back.new.self c.loop-done.done c.loop-done.invariant.0.new c.in_ok-back.ensures.ok)
    (omega (arith, c.loop-done-test.true, c.requires.within))
    (reach_back c.args.tape.now c.loop-done.tape c.back.new.self c.loop-done.done c.loop-done.invariant.0.new c.loop-done.invariant.0.reach c.in_ok-back.ensures.within
    (omega (arith, c.loop-done-test.true, c.requires.near)))

pub returns-in-Some-clause-work : goal.returns-in-Some-clause-work
returns-in-Some-clause-work g c =
    let W = g.N.Meter.Meter.work in
    rewound_work g.N.Node.laws g.N.Node.PROBES c.args.tape.now c.back.new.self (c.loop-done.done + 1) (W c.args.meter.now) (W c.back.new.meter)
    (moved_back c.args.tape.now c.loop-done.tape c.back.new.self c.loop-done.done c.loop-done.invariant.0.new c.in_ok-back.ensures.ok)
    (omega (arith, c.loop-done-test.true, c.requires.within))
    (work_back g.N.Node.laws g.N.Node.PROBES c.args.tape.now c.loop-done.tape c.back.new.self c.loop-done.done (W c.args.meter.now) (W c.loop-done.meter) (W c.back.new.meter) c.loop-done.invariant.0.new
    (omega (arith, c.loop-done-test.true, c.requires.within)) c.loop-done.invariant.0.reach c.loop-done.invariant.1 c.in_ok-back.ensures.undos (omega (arith, c.loop-done-test.true, c.requires.near)))

pub returns-clause-last : goal.returns-clause-last
returns-clause-last g c =
    none_so g.N.Node.laws g.N.Node.PROBES c.args.watches.now c.args.tape.now (c.args.tape.now.place - c.loop-done.done) (c.args.tape.now.place - c.args.count) c.args.tape.now.place
    (omega arith) c.loop-done.invariant.0.none

pub returns-clause-moved : goal.returns-clause-moved
returns-clause-moved g c =
    let all : c.args.tape.now.place - c.loop-done.done ≡ c.args.tape.now.place - c.args.count = omega arith in
    c.loop-done.invariant.0.new ∙ ap (λ p. with_world true c.loop-done.tape.reach (at p c.args.tape.now)) all

pub returns-clause-reach : goal.returns-clause-reach
returns-clause-reach g c =
    rewound_reach c.args.tape.now c.loop-done.tape c.loop-done.done c.loop-done.invariant.0.new (omega (arith, c.requires.within)) c.loop-done.invariant.0.reach

pub returns-clause-work : goal.returns-clause-work
returns-clause-work g c =
    let W = g.N.Meter.Meter.work in
    rewound_work g.N.Node.laws g.N.Node.PROBES c.args.tape.now c.loop-done.tape c.loop-done.done (W c.args.meter.now) (W c.loop-done.meter) c.loop-done.invariant.0.new
    (omega (arith, c.requires.within)) c.loop-done.invariant.1

pub found_here-requires-clause-unchanged : goal.found_here-requires-clause-unchanged
found_here-requires-clause-unchanged g c = λ no. (elim c.if-done-eq0.branch [
  | then-done-eq0 w ↦ let bad : true ≡ false = sym (ap (λ (n : ℕ). n == 0) w.if-done-eq0.true) ∙ sym w.looks-is ∙ no in absurd cc
  | else-done-eq0 w ↦
      none_before g.N.Node.laws g.N.Node.PROBES c.args.watches.now c.args.tape.now c.loop-done.tape c.back.new.self c.loop-done.done c.concerned-concerned.result w.next_host.result c.loop-done.invariant.0
      (omega (arith, w.if-done-eq0.false)) (omega (arith, c.loop-done-test.true, c.requires.within)) c.in_ok-back.ensures.ok c.concerned-concerned.ensures w.next_host.ensures
      (w.may_differ-looks.ensures (sym w.looks-is ∙ no))
])
