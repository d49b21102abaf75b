use Rattle.std.proofs.Common.{◌≡◌, ◌+◌, length, min, true, refl, sym, ap, ◌∙◌, arith}
use Rattle.sim_events.specs.declared.Event.TheVariants as event
use Rattle.sim_world.specs.Events.{rules}
use Rattle.sim_tape.specs.Tape.{Tape, with_world}
use Rattle.sim_runs.specs.Tapes.{lengthened}
use Rattle.sim_runs.specs.Runs.{Addition, steps}
use Rattle.sim_runs.proofs.Running.{on_err, grown, running_none, running_more, stopped_is, not_past, lengthened_more, reach_more, steps_length, adds_none, adds_on, adds_so}
use Rattle.sim_runs.proofs.Skipping.{none_untested}
use Rattle.sim_runs.proofs.walks.add_steps.Goals as goal

pub loop-added-init : goal.loop-added-init
loop-added-init g c =
    (running_none g.N.Node.laws g.N.Node.PROBES c.args.count c.args.watches.now c.args.tape.now c.requires.warm c.requires.place c.requires.room c.requires.can c.requires.reach, adds_none (rules g.N.Node.laws g.N.Node.PROBES c.args.tape.now.scenario) 0 c.args.tape.now.events (g.N.Meter.Meter.work c.args.meter.now) refl)

pub loop-added-preserved : goal.loop-added-preserved
loop-added-preserved g c =
    let warm : c.loop-added.tape.warm ≡ true = ap (λ (t : Tape). t.warm) c.loop-added.invariant.0.new in
    let W = g.N.Meter.Meter.work in (
      running_more g.N.Node.laws g.N.Node.PROBES c.args.count c.args.watches.now c.args.tape.now c.loop-added.tape c.add.new.self c.loop-added.added c.loop-added.invariant.0
          c.in_ok-add.ensures.ok (c.in_ok-add.ensures.reach warm) (sym c.in_default.is ∙ c.stop.ensures),
      adds_on g.N.Node.laws g.N.Node.PROBES c.loop-added.added c.args.tape.now c.loop-added.tape c.add.new.self (steps c.loop-added.added) event.Step (W c.args.meter.now) (W c.loop-added.meter) (W c.add.new.meter)
          c.loop-added.invariant.0.new (steps_length c.loop-added.added) c.in_ok-add.ensures.ok c.loop-added.invariant.1 (c.in_ok-add.ensures.work warm),
    )

pub stop-requires-clause-unchanged : goal.stop-requires-clause-unchanged
stop-requires-clause-unchanged g c = λ untested.
    none_untested g.N.Node.laws g.N.Node.PROBES c.args.count c.args.watches.now c.args.tape.now c.loop-added.tape c.add.new.self c.loop-added.added c.args.end c.concerned-concerned.result c.requires.none
    c.concerned-concerned.ensures c.loop-added.invariant.0 c.in_ok-add.ensures.ok (c.may_fail-looks.ensures untested)

pub returns-in-Some-clause-stop : goal.returns-in-Some-clause-stop
returns-in-Some-clause-stop g c =
    sym (ap (λ (a : Addition). a.stop)
    (stopped_is g.N.Node.laws g.N.Node.PROBES c.args.count c.args.watches.now c.args.tape.now c.loop-added.tape c.add.new.self c.loop-added.added c.in-Some.why c.loop-added-test.true
    c.loop-added.invariant.0 c.in_ok-add.ensures.ok (sym c.in-Some.is ∙ c.stop.ensures)))

pub returns-in-Some-clause-ok : goal.returns-in-Some-clause-ok
returns-in-Some-clause-ok g c =
    let stopped = stopped_is g.N.Node.laws g.N.Node.PROBES c.args.count c.args.watches.now c.args.tape.now c.loop-added.tape c.add.new.self c.loop-added.added c.in-Some.why c.loop-added-test.true
    c.loop-added.invariant.0 c.in_ok-add.ensures.ok (sym c.in-Some.is ∙ c.stop.ensures) in
    lengthened_more g.N.Node.laws g.N.Node.PROBES c.args.tape.now c.loop-added.tape c.add.new.self c.loop-added.added c.loop-added.invariant.0.new c.in_ok-add.ensures.ok
    ∙ ap (λ (a : Addition). with_world true c.add.new.self.reach (lengthened a.events c.args.tape.now)) (sym stopped)

pub returns-in-Some-clause-reach : goal.returns-in-Some-clause-reach
returns-in-Some-clause-reach g c =
    let stopped = stopped_is g.N.Node.laws g.N.Node.PROBES c.args.count c.args.watches.now c.args.tape.now c.loop-added.tape c.add.new.self c.loop-added.added c.in-Some.why c.loop-added-test.true
    c.loop-added.invariant.0 c.in_ok-add.ensures.ok (sym c.in-Some.is ∙ c.stop.ensures) in
    let warm : c.loop-added.tape.warm ≡ true = ap (λ (t : Tape). t.warm) c.loop-added.invariant.0.new in
    reach_more g.N.Node.laws g.N.Node.PROBES c.args.count c.args.watches.now c.args.tape.now c.loop-added.tape c.add.new.self c.loop-added.added c.loop-added.invariant.0 (c.in_ok-add.ensures.reach warm)
    ∙ ap (λ n. min c.args.tape.now.scenario.window (c.args.tape.now.reach + n)) (sym (steps_length (c.loop-added.added + 1)))
    ∙ ap (λ (a : Addition). min c.args.tape.now.scenario.window (c.args.tape.now.reach + length a.events)) (sym stopped)

pub returns-in-Some-clause-work : goal.returns-in-Some-clause-work
returns-in-Some-clause-work g c =
    let W = g.N.Meter.Meter.work in
    let stopped = stopped_is g.N.Node.laws g.N.Node.PROBES c.args.count c.args.watches.now c.args.tape.now c.loop-added.tape c.add.new.self c.loop-added.added c.in-Some.why c.loop-added-test.true
    c.loop-added.invariant.0 c.in_ok-add.ensures.ok (sym c.in-Some.is ∙ c.stop.ensures) in
    let warm : c.loop-added.tape.warm ≡ true = ap (λ (t : Tape). t.warm) c.loop-added.invariant.0.new in
    adds_so (rules g.N.Node.laws g.N.Node.PROBES c.args.tape.now.scenario) (c.loop-added.added + 1) _ c.add.new.self.events (W c.args.meter.now) (W c.add.new.meter) (sym (steps_length (c.loop-added.added + 1)) ∙ ap (λ (a : Addition). length a.events) (sym stopped))
    (adds_on g.N.Node.laws g.N.Node.PROBES c.loop-added.added c.args.tape.now c.loop-added.tape c.add.new.self (steps c.loop-added.added) event.Step (W c.args.meter.now) (W c.loop-added.meter) (W c.add.new.meter)
    c.loop-added.invariant.0.new (steps_length c.loop-added.added) c.in_ok-add.ensures.ok c.loop-added.invariant.1 (c.in_ok-add.ensures.work warm))

pub unreachable-requires : goal.unreachable-requires
unreachable-requires g c =
    not_past g.N.Node.laws g.N.Node.PROBES c.args.count c.args.watches.now c.args.tape.now c.loop-added.tape c.loop-added.added c.requires.some (omega arith) c.loop-added.invariant.0

pub returns-in_err-add-clause-err : goal.returns-in_err-add-clause-err
returns-in_err-add-clause-err g c =
    on_err c.from_residual.result (grown c.args.tape.now c.loop-added.tape c.add.new.self (steps c.loop-added.added) c.loop-added.invariant.0.new c.in_err-add.ensures.err)
