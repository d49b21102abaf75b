use Rattle.std.proofs.Common.{◌≡◌, ◌+◌, length, min, true, refl, sym, ap, ◌∙◌, arith}
use Rattle.sim_events.specs.declared.Event.TheVariants as event
use Rattle.sim_world.specs.Events.{rules}
use Rattle.sim_tape.specs.Tape.{Tape, with_world}
use Rattle.sim_tape.specs.Places.{world_of}
use Rattle.sim_runs.specs.Tapes.{lengthened}
use Rattle.sim_runs.specs.Runs.{Addition, steps}
use Rattle.sim_runs.proofs.Running.{on_err, grown, lengthened_by, steps_length, adds_none, adds_on, adds_so}
use Rattle.sim_runs.proofs.Ticking.{step_can, ends_can, ticking_more, reach_next, ticked_is, ticked_all, ticked_length, ticking_none}
use Rattle.sim_runs.proofs.ticks.add_tick.Goals as goal

pub add-requires-clause-can : goal.add-requires-clause-can
add-requires-clause-can g c =
    let none = sym c.is_due_by.ensures ∙ c.if-not-is_due_by.true in
    let is_end : c.args.end ≡ (world_of (rules g.N.Node.laws g.N.Node.PROBES c.args.tape.now.scenario) c.args.tape.now).clock + c.args.tape.now.scenario.tick = c.requires.end in
    ends_can g.N.Node.laws g.N.Node.PROBES c.args.end c.args.tape.now c.loop.tape c.loop.counter c.loop.invariant.0 (omega (arith, is_end, c.requires.near)) none

pub add-requires-in-loop-clause-can : goal.add-requires-in-loop-clause-can
add-requires-in-loop-clause-can g c =
    let r = rules g.N.Node.laws g.N.Node.PROBES c.loop.tape.scenario in
    step_can r c.args.end (world_of r c.loop.tape) (sym c.is_due_by.ensures ∙ c.if-not-is_due_by.false)

pub loop-init : goal.loop-init
loop-init g c =
    let is_end : c.args.end ≡ (world_of (rules g.N.Node.laws g.N.Node.PROBES c.args.tape.now.scenario) c.args.tape.now).clock + c.args.tape.now.scenario.tick = c.requires.end in
    (ticking_none g.N.Node.laws g.N.Node.PROBES c.args.end c.args.tape.now c.requires.warm c.requires.place c.requires.reach (omega (arith, is_end)), adds_none (rules g.N.Node.laws g.N.Node.PROBES c.args.tape.now.scenario) 0 c.args.tape.now.events (g.N.Meter.Meter.work c.args.meter.now) refl)

pub loop-preserved : goal.loop-preserved
loop-preserved g c =
    let warm : c.loop.tape.warm ≡ true = ap (λ (t : Tape). t.warm) c.loop.invariant.0.new in
    let v = c.in_ok-add-2.ensures in
    let W = g.N.Meter.Meter.work in (
      ticking_more g.N.Node.laws g.N.Node.PROBES c.args.end c.args.tape.now c.loop.tape c.add-in-loop.new.self c.loop.counter c.loop.invariant.0 v.ok (v.reach warm)
          (sym c.is_due_by.ensures ∙ c.if-not-is_due_by.false) v.clock v.on,
      adds_on g.N.Node.laws g.N.Node.PROBES c.loop.counter c.args.tape.now c.loop.tape c.add-in-loop.new.self (steps c.loop.counter) event.Step (W c.args.meter.now) (W c.loop.meter) (W c.add-in-loop.new.meter)
          c.loop.invariant.0.new (steps_length c.loop.counter) v.ok c.loop.invariant.1 (v.work warm),
    )

pub returns-then-not-is_due_by-clause-stop : goal.returns-then-not-is_due_by-clause-stop
returns-then-not-is_due_by-clause-stop g c =
    sym (ap (λ (a : Addition). a.stop)
    (ticked_is g.N.Node.laws g.N.Node.PROBES c.args.end c.args.room c.args.tape.now c.loop.tape c.add.new.self c.loop.counter c.stop_at_end.result c.requires.end c.requires.room c.loop-test.true
    c.loop.invariant.0 (sym c.is_due_by.ensures ∙ c.if-not-is_due_by.true) c.in_ok-add.ensures.ok c.stop_at_end.ensures))

pub returns-then-not-is_due_by-clause-ok : goal.returns-then-not-is_due_by-clause-ok
returns-then-not-is_due_by-clause-ok g c =
    let ticked = ticked_is g.N.Node.laws g.N.Node.PROBES c.args.end c.args.room c.args.tape.now c.loop.tape c.add.new.self c.loop.counter c.stop_at_end.result c.requires.end c.requires.room
    c.loop-test.true c.loop.invariant.0 (sym c.is_due_by.ensures ∙ c.if-not-is_due_by.true) c.in_ok-add.ensures.ok c.stop_at_end.ensures in
    lengthened_by g.N.Node.laws g.N.Node.PROBES c.args.tape.now c.loop.tape c.add.new.self c.loop.counter (event.Advance c.args.end) c.loop.invariant.0.new c.in_ok-add.ensures.ok
    ∙ ap (λ (a : Addition). with_world true c.add.new.self.reach (lengthened a.events c.args.tape.now)) (sym ticked)

pub returns-then-not-is_due_by-clause-reach : goal.returns-then-not-is_due_by-clause-reach
returns-then-not-is_due_by-clause-reach g c =
    let ticked = ticked_is g.N.Node.laws g.N.Node.PROBES c.args.end c.args.room c.args.tape.now c.loop.tape c.add.new.self c.loop.counter c.stop_at_end.result c.requires.end c.requires.room
    c.loop-test.true c.loop.invariant.0 (sym c.is_due_by.ensures ∙ c.if-not-is_due_by.true) c.in_ok-add.ensures.ok c.stop_at_end.ensures in
    let warm : c.loop.tape.warm ≡ true = ap (λ (t : Tape). t.warm) c.loop.invariant.0.new in
    reach_next g.N.Node.laws g.N.Node.PROBES c.args.end c.args.tape.now c.loop.tape c.add.new.self c.loop.counter c.loop.invariant.0 (c.in_ok-add.ensures.reach warm)
    ∙ ap (λ n. min c.args.tape.now.scenario.window (c.args.tape.now.reach + n)) (sym (ticked_length c.loop.counter c.args.end))
    ∙ ap (λ (a : Addition). min c.args.tape.now.scenario.window (c.args.tape.now.reach + length a.events)) (sym ticked)

pub returns-clause-stop : goal.returns-clause-stop
returns-clause-stop g c =
    sym (ap (λ (a : Addition). a.stop)
    (ticked_all g.N.Node.laws g.N.Node.PROBES c.args.end c.args.room c.args.tape.now c.loop.tape c.loop.counter c.stop_short.result c.requires.end c.requires.room (omega arith) c.loop.invariant.0
    c.stop_short.ensures))

pub returns-clause-ok : goal.returns-clause-ok
returns-clause-ok g c =
    let ticked = ticked_all g.N.Node.laws g.N.Node.PROBES c.args.end c.args.room c.args.tape.now c.loop.tape c.loop.counter c.stop_short.result c.requires.end c.requires.room (omega arith)
    c.loop.invariant.0 c.stop_short.ensures in
    c.loop.invariant.0.new ∙ ap (λ (a : Addition). with_world true c.loop.tape.reach (lengthened a.events c.args.tape.now)) (sym ticked)

pub returns-clause-reach : goal.returns-clause-reach
returns-clause-reach g c =
    let ticked = ticked_all g.N.Node.laws g.N.Node.PROBES c.args.end c.args.room c.args.tape.now c.loop.tape c.loop.counter c.stop_short.result c.requires.end c.requires.room (omega arith)
    c.loop.invariant.0 c.stop_short.ensures in
    c.loop.invariant.0.reach ∙ ap (λ n. min c.args.tape.now.scenario.window (c.args.tape.now.reach + n)) (sym (steps_length c.loop.counter))
    ∙ ap (λ (a : Addition). min c.args.tape.now.scenario.window (c.args.tape.now.reach + length a.events)) (sym ticked)

pub returns-then-not-is_due_by-clause-work : goal.returns-then-not-is_due_by-clause-work
returns-then-not-is_due_by-clause-work g c =
    let W = g.N.Meter.Meter.work in
    let ticked = ticked_is g.N.Node.laws g.N.Node.PROBES c.args.end c.args.room c.args.tape.now c.loop.tape c.add.new.self c.loop.counter c.stop_at_end.result c.requires.end c.requires.room
    c.loop-test.true c.loop.invariant.0 (sym c.is_due_by.ensures ∙ c.if-not-is_due_by.true) c.in_ok-add.ensures.ok c.stop_at_end.ensures in
    let warm : c.loop.tape.warm ≡ true = ap (λ (t : Tape). t.warm) c.loop.invariant.0.new in
    adds_so (rules g.N.Node.laws g.N.Node.PROBES c.args.tape.now.scenario) (c.loop.counter + 1) _ c.add.new.self.events (W c.args.meter.now) (W c.add.new.meter) (sym (ticked_length c.loop.counter c.args.end) ∙ ap (λ (a : Addition). length a.events) (sym ticked))
    (adds_on g.N.Node.laws g.N.Node.PROBES c.loop.counter c.args.tape.now c.loop.tape c.add.new.self (steps c.loop.counter) (event.Advance c.args.end) (W c.args.meter.now) (W c.loop.meter) (W c.add.new.meter)
    c.loop.invariant.0.new (steps_length c.loop.counter) c.in_ok-add.ensures.ok c.loop.invariant.1 (c.in_ok-add.ensures.work warm))

pub returns-clause-work : goal.returns-clause-work
returns-clause-work g c =
    let W = g.N.Meter.Meter.work in
    let ticked = ticked_all g.N.Node.laws g.N.Node.PROBES c.args.end c.args.room c.args.tape.now c.loop.tape c.loop.counter c.stop_short.result c.requires.end c.requires.room (omega arith)
    c.loop.invariant.0 c.stop_short.ensures in
    adds_so (rules g.N.Node.laws g.N.Node.PROBES c.args.tape.now.scenario) c.loop.counter _ c.loop.tape.events (W c.args.meter.now) (W c.loop.meter) (sym (steps_length c.loop.counter) ∙ ap (λ (a : Addition). length a.events) (sym ticked)) c.loop.invariant.1

pub returns-in_err-add-clause-err : goal.returns-in_err-add-clause-err
returns-in_err-add-clause-err g c =
    on_err c.from_residual.result (grown c.args.tape.now c.loop.tape c.add.new.self (steps c.loop.counter) c.loop.invariant.0.new c.in_err-add.ensures.err)

pub returns-in_err-add-2-clause-err : goal.returns-in_err-add-2-clause-err
returns-in_err-add-2-clause-err g c =
    on_err c.from_residual-in_err-add-2.result
    (grown c.args.tape.now c.loop.tape c.add-in-loop.new.self (steps c.loop.counter) c.loop.invariant.0.new c.in_err-add-2.ensures.err)
