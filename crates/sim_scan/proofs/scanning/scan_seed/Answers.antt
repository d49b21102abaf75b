use Rattle.std.proofs.Common.{◌+◌, sym, ap, ◌∙◌, arith, replicate}
use Rattle.sim_events.specs.declared.Event.TheVariants as event
use Rattle.sim_events.specs.Scenario.{Scenario}
use Rattle.sim_watch.specs.Condition.{fault_of}
use Rattle.sim_watch.proofs.Concerned.{holds_same}
use Rattle.sim_scan.proofs.Scans.{at_start, stepping_none, stepping_more, idle_none, stepped_is, stepped_none, turns_begun, turns_more, turns_within}
use Rattle.sim_scan.proofs.scanning.scan_seed.Goals as goal
use Rattle.sim_scan.proofs.scanning.scan_seed.Goals.{else-concerned-host-via-then-concerned-host+else-not-holds-2, else-concerned-host-via-else-concerned-host}

pub holds-requires : goal.holds-requires
holds-requires g c = ap (λ w. fault_of w.scenario.setup.hosts g.N.Node.PROBES c.args.cond.now) c.in_ok-world.ensures.value ∙ c.requires.checked

pub loop-place-init : goal.loop-place-init
loop-place-init g c =
    let node = g.N.Node.laws in (
      stepping_none node g.N.Node.PROBES c.args.cond.now c.args.scenario.now c.args.events c.in_ok-world.world
          (at_start node g.N.Node.PROBES c.args.cond.now c.args.scenario.now (replicate c.args.events event.Step) c.in_ok-world.world c.in_ok-world.ensures.value),
      sym c.holds.ensures ∙ c.if-not-holds.false,
      turns_begun c.args.scenario.now.setup.hosts _ _ c.in_ok-world.ensures.work,
    )

pub returns-then-not-holds-clause-place : goal.returns-then-not-holds-clause-place
returns-then-not-holds-clause-place g c =
    let node = g.N.Node.laws in
    stepped_is node g.N.Node.PROBES c.args.cond.now c.args.scenario.now c.args.events 0 c.in_ok-world.world (omega arith)
    (stepping_none node g.N.Node.PROBES c.args.cond.now c.args.scenario.now c.args.events c.in_ok-world.world
    (at_start node g.N.Node.PROBES c.args.cond.now c.args.scenario.now (replicate c.args.events event.Step) c.in_ok-world.world c.in_ok-world.ensures.value))
    (sym c.holds.ensures ∙ c.if-not-holds.true)

pub returns-in-Err-clause-place : goal.returns-in-Err-clause-place
returns-in-Err-clause-place g c =
    idle_none g.N.Node.laws g.N.Node.PROBES c.args.cond.now c.args.scenario.now c.args.events c.loop-place.place c.loop-place.world c.in-Err.field-0 c.loop-place-test.true c.loop-place.invariant.0 c.in-Err.ensures.answer
    c.loop-place.invariant.1

pub holds-requires-then-concerned-host : goal.holds-requires-then-concerned-host
holds-requires-then-concerned-host g c =
    ap (λ (s : Scenario). fault_of s.setup.hosts g.N.Node.PROBES c.args.cond.now) (c.in_ok-next.ensures.scenario ∙ c.loop-place.invariant.0.here.scenario) ∙ c.requires.checked

pub returns-then-not-holds-2-clause-place : goal.returns-then-not-holds-2-clause-place
returns-then-not-holds-2-clause-place g c =
    let node = g.N.Node.laws in
    let lt = c.loop-place-test.true in
    stepped_is node g.N.Node.PROBES c.args.cond.now c.args.scenario.now c.args.events (c.loop-place.place + 1) c.in_ok-next.next (omega arith)
    (stepping_more node g.N.Node.PROBES c.args.cond.now c.args.scenario.now c.args.events c.loop-place.place c.loop-place.world c.in_ok-next.next lt c.loop-place.invariant.0
    c.in_ok-next.ensures.next c.in_ok-next.ensures.scenario c.in_ok-next.ensures.age c.loop-place.invariant.1)
    (sym c.holds-then-concerned-host.ensures ∙ c.if-not-holds-2.true)

pub loop-place-preserved : goal.loop-place-preserved
loop-place-preserved g c =
    let node = g.N.Node.laws in (
      stepping_more node g.N.Node.PROBES c.args.cond.now c.args.scenario.now c.args.events c.loop-place.place c.loop-place.world c.in_ok-next.next c.loop-place-test.true c.loop-place.invariant.0
          c.in_ok-next.ensures.next c.in_ok-next.ensures.scenario c.in_ok-next.ensures.age c.loop-place.invariant.1,
      elim c.else-concerned-host.branch [
        | else-concerned-host-via-then-concerned-host+else-not-holds-2 x ↦ sym x.holds-then-concerned-host.ensures ∙ x.if-not-holds-2.false
        | else-concerned-host-via-else-concerned-host x ↦
            holds_same node c.in_ok-next.host c.loop-place.world.world c.in_ok-next.next.world c.in_ok-next.ensures.others c.args.cond.now
            (sym (c.concerned-concerned.ensures c.in_ok-next.host c.in_ok-next.ensures.there) ∙ x.if-concerned-host.false)
            ∙ c.loop-place.invariant.1
      ],
      turns_more (c.args.scenario.now.setup.hosts + c.loop-place.place) (c.args.scenario.now.setup.hosts + (c.loop-place.place + 1)) _ _ _ _ c.loop-place.invariant.2 c.in_ok-next.ensures.work (omega arith),
    )

pub returns-clause-place : goal.returns-clause-place
returns-clause-place g c =
    stepped_none g.N.Node.laws g.N.Node.PROBES c.args.cond.now c.args.scenario.now c.args.events c.loop-place.place c.loop-place.world (omega arith) c.loop-place.invariant.0 c.loop-place.invariant.1

pub returns-then-not-holds-clause-work : goal.returns-then-not-holds-clause-work
returns-then-not-holds-clause-work g c = turns_begun c.args.scenario.now.setup.hosts _ _ c.in_ok-world.ensures.work

pub returns-in-Err-clause-work : goal.returns-in-Err-clause-work
returns-in-Err-clause-work g c =
    turns_within (c.args.scenario.now.setup.hosts + c.loop-place.place) (c.args.scenario.now.setup.hosts + c.args.events) _ _ (omega arith) c.loop-place.invariant.2

pub returns-then-not-holds-2-clause-work : goal.returns-then-not-holds-2-clause-work
returns-then-not-holds-2-clause-work g c =
    turns_more (c.args.scenario.now.setup.hosts + c.loop-place.place) (c.args.scenario.now.setup.hosts + (c.loop-place.place + 1)) _ _ _ _ c.loop-place.invariant.2 c.in_ok-next.ensures.work (omega arith)

pub returns-clause-work : goal.returns-clause-work
returns-clause-work g c =
    turns_within (c.args.scenario.now.setup.hosts + c.loop-place.place) (c.args.scenario.now.setup.hosts + c.args.events) _ _ (omega arith) c.loop-place.invariant.2
