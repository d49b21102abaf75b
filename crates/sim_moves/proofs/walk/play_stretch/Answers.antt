use Rattle.std.proofs.Common.{◌≡◌, ℕ, ◌+◌, ◌-◌, ◌≤◌, length, get_or, refl, sym, ap, subst, ◌∙◌, arith}
use Rattle.std.specs.Option.{IsSome}
use Rattle.sim_world.specs.Events.{rules, next}
use Rattle.sim_history.specs.Entry.{Entry}
use Rattle.sim_history.specs.Log.{events_of}
use Rattle.sim_history.specs.Segments.{stretch}
use Rattle.sim_history.proofs.Joined.{length-stretch, at_stretch, stretch_some}
use Rattle.sim_moves.specs.Circle.{IsKept}
use Rattle.sim_moves.specs.Places.{IsAt, AreRecords}
use Rattle.sim_moves.specs.Works.{OnlyTurns}
use Rattle.sim_moves.proofs.Placing.{can_play, played_at, played_answers, records-push, kept_length, turns-more}
use Rattle.sim_moves.proofs.walk.play_stretch.Goals as goal

pub loop-entry-init : goal.loop-entry-init
loop-entry-init g c =
    let r = rules g.N.Node.laws g.N.Node.PROBES c.args.log.now.scenario in
    let here : c.args.way.start ≡ c.args.way.start + 0 = omega arith in
    let room = c.requires.room in
    record {
      here = subst (λ (p : ℕ). IsAt r (events_of c.args.log.now.entries) p c.args.world) here c.requires.here;
      records = subst (λ (p : ℕ). AreRecords g.N.Node.told g.N.Node.records r (events_of c.args.log.now.entries) p c.args.ring.now.items) here c.requires.records;
      reach = omega (arith, room);
      capacity = refl;
      work = record { turns = omega arith; copies = refl; undos = refl };
    }

pub apply-requires-clause-can : goal.apply-requires-clause-can
apply-requires-clause-can g c =
    let log = c.args.log.now in
    let ys = c.stretch-entries.result.now in
    let j = c.loop-entry.entry-index in
    let e = c.entry-item.result in
    let at = at_stretch (stretch log.scenario.interval c.args.way.start c.args.way.end) c.args.way.start j log.entries ys e c.stretch-entries.ensures.entries c.loop-entry-test.true in
    let can = can_play g.N.Node.told g.N.Node.records g.N.Node.laws g.N.Node.PROBES log.scenario log.entries (c.args.way.start + j) (get_or ys j e) c.loop-entry.world c.requires.runs.runs
    at c.loop-entry.invariant.here in
    let event : (get_or ys j e).event ≡ c.event.result = ap (λ (x : Entry). x.event) (sym c.entry-item.is) ∙ sym c.event.ensures in
    subst (λ ev. IsSome (next (rules g.N.Node.laws g.N.Node.PROBES c.loop-entry.world.scenario) c.loop-entry.world.world ev)) event can

pub apply-requires-clause-young : goal.apply-requires-clause-young
apply-requires-clause-young g c =
    let log = c.args.log.now in
    let within = c.requires.within in
    let few = c.requires.runs.few in
    let len = length-stretch log.scenario.interval c.args.way.start c.args.way.end log.entries c.stretch-entries.result.now c.stretch-entries.ensures.entries within in
    omega (arith, c.loop-entry.invariant.here.age, within, few, len, c.loop-entry-test.true, c.requires.order)

pub loop-entry-preserved : goal.loop-entry-preserved
loop-entry-preserved g c =
    let told = g.N.Node.told in
    let records = g.N.Node.records in
    let log = c.args.log.now in
    let r = rules g.N.Node.laws g.N.Node.PROBES log.scenario in
    let ys = c.stretch-entries.result.now in
    let j = c.loop-entry.entry-index in
    let i : ℕ = c.args.way.start + j in
    let seen = c.entry-item.result in
    let e = get_or ys j seen in
    let at = at_stretch (stretch log.scenario.interval c.args.way.start c.args.way.end) c.args.way.start j log.entries ys seen c.stretch-entries.ensures.entries c.loop-entry-test.true in
    let event : c.event.result ≡ e.event = c.event.ensures ∙ ap (λ (x : Entry). x.event) c.entry-item.is in
    let here = c.loop-entry.invariant.here in
    let v = c.in_ok-world.ensures in
    let kept = subst (λ ev. IsKept told records (rules g.N.Node.laws g.N.Node.PROBES c.loop-entry.world.scenario) c.loop-entry.ring.capacity c.loop-entry.ring.items c.loop-entry.world.world ev c.apply.new.self.items c.in_ok-world.world) event v.kept in
    let undo = kept.undo in
    let after = played_at told records g.N.Node.laws g.N.Node.PROBES log.scenario log.entries i e c.loop-entry.world c.in_ok-world.world undo at here kept.answers v.scenario v.age in
    let answers = played_answers told records g.N.Node.laws g.N.Node.PROBES log.scenario log.entries i e c.loop-entry.world c.in_ok-world.world undo at here after
    kept.answers kept.leads kept.acted in
    let pushed = records-push told records r (events_of log.entries) c.loop-entry.ring.items i c.loop-entry.ring.capacity undo c.loop-entry.invariant.records answers in
    let reach = c.loop-entry.invariant.reach in
    let capacity = c.loop-entry.invariant.capacity in
    let room : length c.loop-entry.ring.items ≤ c.loop-entry.ring.capacity = (let rm = c.requires.room in omega (arith, reach, capacity)) in
    let len = kept_length c.loop-entry.ring.capacity c.loop-entry.ring.items undo room in
    let next : i + 1 ≡ c.args.way.start + (j + 1) = omega arith in
    record {
      here = subst (λ (p : ℕ). IsAt r (events_of log.entries) p c.in_ok-world.world) next after;
      records = subst (λ (p : ℕ). AreRecords told records r (events_of log.entries) p c.apply.new.self.items) next (rw (kept.kept) pushed);
      reach = rw (kept.kept) (omega (arith, len, reach, capacity));
      capacity = c.apply.ensures.capacity ∙ capacity;
      work = turns-more _ _ _ _ _ c.loop-entry.world.world c.event.result c.loop-entry.invariant.work v.work refl;
    }

pub returns : goal.returns
returns g c =
    let log = c.args.log.now in
    let r = rules g.N.Node.laws g.N.Node.PROBES log.scenario in
    let k = log.scenario.interval in
    let ys = c.stretch-entries.result.now in
    let within = c.requires.within in
    let order = c.requires.order in
    let len = length-stretch k c.args.way.start c.args.way.end log.entries ys c.stretch-entries.ensures.entries within in
    let some = stretch_some k c.args.way.start c.args.way.end c.stretch-entries.ensures.some order in
    let all : c.loop-entry.entry-index ≡ length ys = omega (arith, c.loop-entry-test.false, c.loop-entry.auto.entry-index-end) in
    let count : c.loop-entry.entry-index ≡ c.args.way.start + length ys - c.args.way.start = omega (arith, all) in
    record {
      place = omega (arith, len);
      on = omega (arith, len, some);
      within = omega (arith, len, order);
      here = subst (λ (n : ℕ). IsAt r (events_of log.entries) (c.args.way.start + n) c.loop-entry.world) all c.loop-entry.invariant.here;
      records = subst (λ (n : ℕ). AreRecords g.N.Node.told g.N.Node.records r (events_of log.entries) (c.args.way.start + n) c.loop-entry.ring.items) all c.loop-entry.invariant.records;
      reach = (let reach = c.loop-entry.invariant.reach in omega (arith, reach, count));
      capacity = c.loop-entry.invariant.capacity;
      work = subst (λ (n : ℕ). OnlyTurns n (g.N.Meter.Meter.work c.args.meter.now) (g.N.Meter.Meter.work c.loop-entry.meter)) count c.loop-entry.invariant.work;
    }
