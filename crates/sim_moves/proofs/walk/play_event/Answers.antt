use Rattle.std.proofs.Common.{refl, sym, subst, arith}
use Rattle.std.specs.Option.{IsSome}
use Rattle.sim_world.specs.Events.{rules, next}
use Rattle.sim_history.specs.Log.{events_of}
use Rattle.sim_moves.specs.Circle.{IsKept}
use Rattle.sim_moves.specs.Works.{OnlyTurns}
use Rattle.sim_moves.proofs.Placing.{can_play, played_at, played_answers, records-push, kept_length, turns-more}
use Rattle.sim_moves.proofs.walk.play_event.Goals as goal

pub apply-requires-clause-can : goal.apply-requires-clause-can
apply-requires-clause-can g c =
    let can = can_play g.N.Node.told g.N.Node.records g.N.Node.laws g.N.Node.PROBES c.args.log.now.scenario c.args.log.now.entries c.args.place c.entry.result c.args.world c.requires.runs.runs
    c.entry.ensures c.requires.here in
    subst (λ ev. IsSome (next (rules g.N.Node.laws g.N.Node.PROBES c.args.world.scenario) c.args.world.world ev)) (sym c.event-event.ensures) can

pub apply-requires-clause-young : goal.apply-requires-clause-young
apply-requires-clause-young g c =
    let within = c.requires.within in
    let few = c.requires.runs.few in
    omega (arith, c.requires.here.age, within, few)

pub returns : goal.returns
returns g c =
    let told = g.N.Node.told in
    let records = g.N.Node.records in
    let log = c.args.log.now in
    let r = rules g.N.Node.laws g.N.Node.PROBES log.scenario in
    let i = c.args.place in
    let e = c.entry.result in
    let here = c.requires.here in
    let ring = c.args.ring.now in
    let v = c.in_ok-after.ensures in
    let kept = subst (λ ev. IsKept told records (rules g.N.Node.laws g.N.Node.PROBES c.args.world.scenario) ring.capacity ring.items c.args.world.world ev c.apply.new.self.items c.in_ok-after.after) c.event-event.ensures v.kept in
    let undo = kept.undo in
    let after = played_at told records g.N.Node.laws g.N.Node.PROBES log.scenario log.entries i e c.args.world c.in_ok-after.after undo c.entry.ensures here kept.answers v.scenario v.age in
    let answers = played_answers told records g.N.Node.laws g.N.Node.PROBES log.scenario log.entries i e c.args.world c.in_ok-after.after undo c.entry.ensures here after
    kept.answers kept.leads kept.acted in
    let pushed = records-push told records r (events_of log.entries) ring.items i ring.capacity undo c.requires.records answers in
    let len = kept_length ring.capacity ring.items undo c.requires.room in
    let start : OnlyTurns 0 (g.N.Meter.Meter.work c.args.meter.now) (g.N.Meter.Meter.work c.args.meter.now) = record { turns = omega arith; copies = refl; undos = refl } in
    record {
      here = after;
      records = rw (kept.kept) pushed;
      reach = rw (kept.kept) len;
      capacity = c.apply.ensures.capacity;
      work = turns-more _ _ _ _ _ c.args.world.world c.event-event.result start v.work refl;
    }
