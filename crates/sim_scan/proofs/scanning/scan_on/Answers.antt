use Rattle.std.proofs.Common.{◌≡◌, ◌+◌, ◌-◌, ◌≤◌, true, false, sym, ap, ◌∙◌, arith}
use Rattle.sim_world.specs.Events.{rules}
use Rattle.sim_tape.specs.Tape.{Tape}
use Rattle.sim_scan.proofs.Scans.{scanning_none, scanning_more, tape_on, found_at, found_is, found_none, still_none, checked_at, turned_none, turned_more}
use Rattle.sim_scan.proofs.scanning.scan_on.Goals as goal
use Rattle.sim_scan.proofs.scanning.scan_on.Goals.{else-may_differ-via-then-may_differ+else-fails_here-2, else-may_differ-via-else-may_differ}

pub loop-place-init : goal.loop-place-init
loop-place-init g c =
    let t = c.args.tape.now in (
      scanning_none g.N.Node.laws g.N.Node.PROBES c.args.cond.now t c.place-lo.result c.fails_here.result c.place-lo.ensures.value c.requires.warm c.fails_here.ensures c.if-fails_here.false,
      turned_none (c.place-lo.result - t.place) (g.N.Meter.Meter.work c.args.meter.now),
    )

pub fails_here-requires-then-may_differ-clause-checked : goal.fails_here-requires-then-may_differ-clause-checked
fails_here-requires-then-may_differ-clause-checked g c =
    let t = c.args.tape.now in
    let u = c.pass.new.self in
    checked_at g.N.Node.PROBES c.args.cond.now t.scenario u
    (ap (λ (x : Tape). x.scenario) (tape_on g.N.Node.laws g.N.Node.PROBES c.args.cond.now t.scenario t.events t.place c.loop-place.place c.loop-place.tape u c.loop-place.invariant.0 c.in_ok-host.ensures.ok))
    c.requires.checked

pub returns-then-fails_here-2-clause-place : goal.returns-then-fails_here-2-clause-place
returns-then-fails_here-2-clause-place g c =
    let t = c.args.tape.now in
    let u = c.pass.new.self in
    let p = c.loop-place.place in
    let h = c.loop-place.invariant.0 in
    let on = tape_on g.N.Node.laws g.N.Node.PROBES c.args.cond.now t.scenario t.events t.place p c.loop-place.tape u h c.in_ok-host.ensures.ok in
    let from : t.place ≤ p = omega (arith, c.place-lo.ensures.value, c.loop-place.auto.place) in
    found_is g.N.Node.laws g.N.Node.PROBES c.args.cond.now (rules g.N.Node.laws g.N.Node.PROBES t.scenario) t.events t.place c.args.hi (p + 1) (omega (arith, from)) (omega (arith, c.loop-place-test.true))
    (λ j a b. h.none j a (omega (arith, b)))
    (found_at g.N.Node.laws g.N.Node.PROBES c.args.cond.now t.scenario t.events (p + 1) u true on (sym c.if-fails_here-2.true ∙ c.fails_here-then-may_differ.ensures))

pub loop-place-preserved : goal.loop-place-preserved
loop-place-preserved g c =
    let W = g.N.Meter.Meter.work in
    let t = c.args.tape.now in
    let u = c.pass.new.self in
    let p = c.loop-place.place in
    let h = c.loop-place.invariant.0 in
    let on = tape_on g.N.Node.laws g.N.Node.PROBES c.args.cond.now t.scenario t.events t.place p c.loop-place.tape u h c.in_ok-host.ensures.ok in
    let from : t.place ≤ p = omega (arith, c.place-lo.ensures.value, c.loop-place.auto.place) in (
      scanning_more g.N.Node.laws g.N.Node.PROBES c.args.cond.now t.scenario t.events t.place p c.loop-place.tape u h c.in_ok-host.ensures.ok
          (elim c.else-may_differ.branch [
            | else-may_differ-via-then-may_differ+else-fails_here-2 w ↦
                found_at g.N.Node.laws g.N.Node.PROBES c.args.cond.now t.scenario t.events (p + 1) u false on (sym w.if-fails_here-2.false ∙ w.fails_here-then-may_differ.ensures)
            | else-may_differ-via-else-may_differ w ↦
                still_none g.N.Node.laws g.N.Node.PROBES c.args.cond.now t.scenario t.events t.place p c.loop-place.tape c.concerned-marks.result c.in_ok-host.host h from
                c.concerned-marks.ensures c.in_ok-host.ensures.only (c.may_differ.ensures w.if-may_differ.false)
          ]),
      turned_more (p - t.place) (p + 1 - t.place) (W c.args.meter.now) (W c.loop-place.meter) (W c.pass.new.meter) c.loop-place.invariant.1 c.in_ok-host.ensures.work (omega (arith, from)),
    )

pub returns-clause-place : goal.returns-clause-place
returns-clause-place g c =
    let t = c.args.tape.now in
    let end : c.loop-place.place ≡ c.args.hi = omega (arith, c.loop-place-test.false, c.loop-place.auto.place-end, c.place-lo.ensures.value, c.requires.order) in
    found_none g.N.Node.laws g.N.Node.PROBES c.args.cond.now (rules g.N.Node.laws g.N.Node.PROBES t.scenario) t.events t.place c.args.hi
    (λ j a b. c.loop-place.invariant.0.none j a (omega (arith, end, b)))
