use Rattle.std.proofs.Common.{◌≡◌, ℕ, ◌+◌, ◌-◌, length, take, sym, ap, ◌∙◌, refl, subst, arith, length-take}
use Rattle.sim_world.specs.Events.{rules}
use Rattle.sim_history.specs.Log.{events_of}
use Rattle.sim_moves.specs.Places.{acting, IsAt, AreRecords}
use Rattle.sim_moves.specs.Works.{undone_by}
use Rattle.sim_moves.proofs.Placing.{steps_back, acting-more, undone-none, undone-more}
use Rattle.sim_moves.proofs.walk.unwind.Goals as goal

pub loop-init : goal.loop-init
loop-init g c =
    let r = rules g.N.Node.laws g.N.Node.PROBES c.args.log.now.scenario in
    let es = events_of c.args.log.now.entries in
    let is : c.args.back.end ≡ c.args.back.end - 0 = omega arith in
    record {
      here = subst (λ (p : ℕ). IsAt r es p c.args.world) is c.requires.here;
      records = subst (λ (p : ℕ). AreRecords g.N.Node.told g.N.Node.records r es p c.args.ring.now.items) is c.requires.records;
      reach = omega arith;
      capacity = refl;
      work = undone-none (g.N.Meter.Meter.work c.args.meter.now);
    }

pub undo-requires-clause-some : goal.undo-requires-clause-some
undo-requires-clause-some g c =
    let within = c.requires.reach in
    let reach = c.loop.invariant.reach in
    omega (arith, within, reach, c.loop-test.true)

pub undo-requires-clause-leads : goal.undo-requires-clause-leads
undo-requires-clause-leads g c = λ u newest.
    let r = rules g.N.Node.laws g.N.Node.PROBES c.args.log.now.scenario in
    let es = events_of c.args.log.now.entries in
    (steps_back g.N.Node.told g.N.Node.records r es (c.args.back.end - c.loop.counter) c.loop.ring.items u c.loop.world c.loop.invariant.records newest c.loop.invariant.here).leads

pub loop-preserved : goal.loop-preserved
loop-preserved g c =
    let r = rules g.N.Node.laws g.N.Node.PROBES c.args.log.now.scenario in
    let es = events_of c.args.log.now.entries in
    let p = c.args.back.end - c.loop.counter in
    let us = c.loop.ring.items in
    let taken = c.in_ok-world.ensures.taken in
    let back = steps_back g.N.Node.told g.N.Node.records r es p us taken.undo c.loop.world c.loop.invariant.records taken.newest c.loop.invariant.here in
    let deep = back.deep in
    let some = back.some in
    let at : p - 1 ≡ c.args.back.end - (c.loop.counter + 1) = omega arith in
    let up : p ≡ p - 1 + 1 = omega (arith, deep) in
    let fewer = length-take (length us - 1) us in
    let reach = c.loop.invariant.reach in
    let more = acting-more r (p - 1) c.loop.counter p es up in
    record {
      here = subst (λ (q : ℕ). IsAt r es q c.in_ok-world.world) at (subst (IsAt r es (p - 1)) (sym taken.is) back.here);
      records = rw (taken.others) (subst (λ (q : ℕ). AreRecords g.N.Node.told g.N.Node.records r es q (take (length us - 1) us)) at back.rest);
      reach = rw (taken.others) (omega (arith, fewer, some, reach));
      capacity = c.undo.ensures.capacity ∙ c.loop.invariant.capacity;
      work = undone-more _ _ _ _ _ _ taken.undo.changes c.loop.invariant.work taken.work back.acted
          (ap {B = ℕ} (λ (q : ℕ). acting r q (c.loop.counter + 1) es) (sym at) ∙ more);
    }

pub returns-clause-here : goal.returns-clause-here
returns-clause-here g c =
    let r = rules g.N.Node.laws g.N.Node.PROBES c.args.log.now.scenario in
    let order = c.requires.order in
    let at : c.args.back.end - c.loop.counter ≡ c.args.back.start = omega (arith, order) in
    subst (λ (p : ℕ). IsAt r (events_of c.args.log.now.entries) p c.loop.world) at c.loop.invariant.here

pub returns-clause-records : goal.returns-clause-records
returns-clause-records g c =
    let r = rules g.N.Node.laws g.N.Node.PROBES c.args.log.now.scenario in
    let order = c.requires.order in
    let at : c.args.back.end - c.loop.counter ≡ c.args.back.start = omega (arith, order) in
    subst (λ (p : ℕ). AreRecords g.N.Node.told g.N.Node.records r (events_of c.args.log.now.entries) p c.loop.ring.items) at c.loop.invariant.records

pub returns-clause-work : goal.returns-clause-work
returns-clause-work g c =
    let r = rules g.N.Node.laws g.N.Node.PROBES c.args.log.now.scenario in
    let es = events_of c.args.log.now.entries in
    let W = g.N.Meter.Meter.work in
    let order = c.requires.order in
    let at : c.args.back.end - c.loop.counter ≡ c.args.back.start = omega (arith, order) in
    let all : c.loop.counter ≡ c.args.back.end - c.args.back.start = omega (arith, order) in
    c.loop.invariant.work
    ∙ ap (λ (p : ℕ). undone_by (acting r p c.loop.counter es) (W c.args.meter.now)) at
    ∙ ap (λ (n : ℕ). undone_by (acting r c.args.back.start n es) (W c.args.meter.now)) all
