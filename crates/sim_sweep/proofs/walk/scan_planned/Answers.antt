use Rattle.std.proofs.Common.{◌+◌, not, length, sym, ap, ◌∙◌, arith}
use Rattle.sim_events.specs.Scenario.{Scenario}
use Rattle.sim_world.specs.Events.{rules, start}
use Rattle.sim_watch.specs.Condition.{Cond, holds, fault_of}
use Rattle.sim_scan.proofs.Scans.{fails_here, turns_within}
use Rattle.sim_plan.specs.Happening.{happening}
use Rattle.sim_sweep.proofs.Walks.{turns_on, turns_found, walking_least, walking_start, walking_on, walking_young, walking_room, walking_most, found_early, found_late}
use Rattle.sim_sweep.proofs.walk.scan_planned.Goals as goal

pub loop-event-init : goal.loop-event-init
loop-event-init g c =
    let it = c.into_iter-event-iterator.ensures.into_iter_gives in
    let long = ap length it in
    let first = c.in_ok-spot.ensures.place in (
      walking_start g.N.Node.laws g.N.Node.PROBES c.args.cond.now c.args.scenario.now c.args.at_end c.args.planner c.into_iter-event-iterator.result c.in_ok-spot.spot.place c.in_ok-spot.spot.world
          c.in_ok-spot.ensures.world first it,
      c.in_ok-spot.ensures.fails,
      c.new-watcher.ensures,
      omega (arith, long, first, c.requires.few),
      turns_within c.args.scenario.now.setup.hosts (c.args.scenario.now.setup.hosts + c.in_ok-spot.spot.place) _ _ (omega arith) c.in_ok-spot.ensures.work,
    )

pub passed-requires-clause-checked : goal.passed-requires-clause-checked
passed-requires-clause-checked g c =
    let h = c.loop-event.invariant.0 in
    ap (λ (s : Scenario). fault_of s.setup.hosts g.N.Node.PROBES c.loop-event.watcher.cond.now) h.here.scenario
    ∙ ap (λ (x : Cond). fault_of c.args.scenario.now.setup.hosts g.N.Node.PROBES x) c.loop-event.invariant.2 ∙ c.requires.checked

pub passed-requires-clause-young : goal.passed-requires-clause-young
passed-requires-clause-young g c =
    let h = c.loop-event.invariant.0 in
    let age = h.here.age in
    let lt = walking_young g.N.Node.laws g.N.Node.PROBES c.args.cond.now c.args.scenario.now c.args.at_end c.loop-event.spot.place 65536 c.loop-event.event-iterator c.next.new.self c.in-Some.event
    c.in-Some.ensures.steps c.loop-event.invariant.3 in
    omega (arith, age, lt)

pub passed-requires-clause-place : goal.passed-requires-clause-place
passed-requires-clause-place g c = sym c.loop-event.invariant.0.here.age

pub passed-requires-clause-fails : goal.passed-requires-clause-fails
passed-requires-clause-fails g c =
    c.loop-event.invariant.1 ∙ ap (λ (x : Cond). not (holds g.N.Node.laws x c.loop-event.spot.world.world)) (sym c.loop-event.invariant.2)

pub returns-then-is_found-clause-place : goal.returns-then-is_found-clause-place
returns-then-is_found-clause-place g c =
    let r = rules g.N.Node.laws g.N.Node.PROBES c.args.scenario.now in
    let yes = c.is_found.ensures.yes c.if-is_found.true in
    found_early g.N.Node.laws g.N.Node.PROBES c.args.cond.now c.args.scenario.now c.args.at_end (happening r (start r) c.args.planner) c.loop-event.spot.place c.loop-event.spot.world c.loop-event.event-iterator
    c.loop-event.invariant.0 yes.1 (sym c.loop-event.invariant.1 ∙ yes.0)

pub loop-event-preserved : goal.loop-event-preserved
loop-event-preserved g c =
    let node = g.N.Node.laws in
    let r = rules node g.N.Node.PROBES c.args.scenario.now in
    let run = happening r (start r) c.args.planner in
    let h = c.loop-event.invariant.0 in
    let spot = c.loop-event.spot in
    let ens = c.in_ok-spot-2.ensures in (
      walking_on node g.N.Node.PROBES c.args.cond.now c.args.scenario.now c.args.at_end run spot.place c.in_ok-spot-2.spot.place spot.world c.in_ok-spot-2.spot.world c.loop-event.event-iterator c.next.new.self
          c.in-Some.event h c.in-Some.ensures.steps ens.on ens.scenario ens.place
          (λ off. fails_here node g.N.Node.PROBES c.args.cond.now c.args.scenario.now run spot.place spot.world h.here ∙ sym c.loop-event.invariant.1 ∙ c.is_found.ensures.no c.if-is_found.false off),
      ens.fails ∙ ap (λ (x : Cond). not (holds node x c.in_ok-spot-2.spot.world.world)) c.loop-event.invariant.2,
      c.passed.ensures.cond ∙ c.loop-event.invariant.2,
      walking_room node g.N.Node.PROBES c.args.cond.now c.args.scenario.now c.args.at_end spot.place c.in_ok-spot-2.spot.place 65536 c.loop-event.event-iterator c.next.new.self c.in-Some.event
          c.in-Some.ensures.steps c.loop-event.invariant.3
          (walking_most node g.N.Node.PROBES c.args.cond.now c.args.scenario.now c.args.at_end spot.place c.in_ok-spot-2.spot.place spot.world c.in_ok-spot-2.spot.world _ _ ens.on ens.place (sym h.here.age)),
      turns_on c.args.scenario.now.setup.hosts spot.place c.in_ok-spot-2.spot.place _ _ _
          (walking_least node g.N.Node.PROBES c.args.cond.now c.args.scenario.now c.args.at_end spot.place c.in_ok-spot-2.spot.place spot.world c.in_ok-spot-2.spot.world _ _ ens.on ens.place (sym h.here.age))
          c.loop-event.invariant.4 ens.work,
    )

pub returns-clause-place : goal.returns-clause-place
returns-clause-place g c =
    let r = rules g.N.Node.laws g.N.Node.PROBES c.args.scenario.now in
    c.finding.ensures
    ∙ found_late g.N.Node.laws g.N.Node.PROBES c.args.cond.now c.args.scenario.now c.args.at_end (happening r (start r) c.args.planner) c.loop-event.spot.place c.loop-event.spot.world c.loop-event.event-iterator
    c.loop-event.spot.fails c.loop-event.invariant.0 c.in-None.ensures.steps.0 c.loop-event.invariant.1

pub returns-clause-work : goal.returns-clause-work
returns-clause-work g c =
    let r = rules g.N.Node.laws g.N.Node.PROBES c.args.scenario.now in
    turns_found c.args.scenario.now.setup.hosts c.loop-event.spot.place (length (happening r (start r) c.args.planner)) c.loop-event.spot.fails _ _ _
    c.finding.ensures c.loop-event.invariant.0.within c.loop-event.invariant.4
