use Rattle.std.proofs.Common.{◌≡◌, ◌+◌, Some, sym, subst, ◌∙◌, arith}
use Rattle.std.specs.Option.{IsSome}
use Rattle.sim_world.specs.Events.{rules, next}
use Rattle.sim_history.specs.Log.{events_of}
use Rattle.sim_history.proofs.Entries.{events-length}
use Rattle.sim_moves.proofs.Placing.{can_play, passed_at, changes_only, no_records}
use Rattle.sim_moves.proofs.Walking.{walk_here}
use Rattle.sim_moves.proofs.walk.Walk.pass.Goals as goal

pub passed-passed-requires-clause-can : goal.passed-passed-requires-clause-can
passed-passed-requires-clause-can g c =
    let log = c.args.log.now in
    let old = c.args.self.now in
    let r = rules g.N.Node.laws g.N.Node.PROBES log.scenario in
    let w = c.in-Some.world in
    let here = walk_here g.N.Node.told g.N.Node.records r (events_of log.entries) c.args.place old.world old.ring.items w c.requires.walk (sym c.take.ensures.value ∙ c.in-Some.is) in
    let can = can_play g.N.Node.told g.N.Node.records g.N.Node.laws g.N.Node.PROBES log.scenario log.entries c.args.place c.entry.result w c.requires.runs.runs c.entry.ensures here in
    subst (λ ev. IsSome (next (rules g.N.Node.laws g.N.Node.PROBES w.scenario) w.world ev)) (sym c.event-event.ensures) can

pub returns-clause-ok : goal.returns-clause-ok
returns-clause-ok g c =
    let log = c.args.log.now in
    let old = c.args.self.now in
    let r = rules g.N.Node.laws g.N.Node.PROBES log.scenario in
    let w = c.in-Some.world in
    let v = c.in_ok-after.ensures in
    let within = c.requires.within in
    let next = subst (λ ev. next (rules g.N.Node.laws g.N.Node.PROBES w.scenario) w.world ev ≡ Some c.in_ok-after.after.world) c.event-event.ensures v.next in
    let here = walk_here g.N.Node.told g.N.Node.records r (events_of log.entries) c.args.place old.world old.ring.items w c.requires.walk (sym c.take.ensures.value ∙ c.in-Some.is) in
    record {
      within = omega (arith, within, events-length log.entries);
      here = passed_at g.N.Node.told g.N.Node.records g.N.Node.laws g.N.Node.PROBES log.scenario log.entries c.args.place c.entry.result w c.in_ok-after.after c.entry.ensures here next v.scenario v.age;
      answers = no_records g.N.Node.told g.N.Node.records r (events_of log.entries) (c.args.place + 1);
    }

pub returns-clause-only : goal.returns-clause-only
returns-clause-only g c =
    let log = c.args.log.now in
    let old = c.args.self.now in
    let r = rules g.N.Node.laws g.N.Node.PROBES log.scenario in
    let w = c.in-Some.world in
    let v = c.in_ok-after.ensures in
    let next = subst (λ ev. next (rules g.N.Node.laws g.N.Node.PROBES w.scenario) w.world ev ≡ Some c.in_ok-after.after.world) c.event-event.ensures v.next in
    let here = walk_here g.N.Node.told g.N.Node.records r (events_of log.entries) c.args.place old.world old.ring.items w c.requires.walk (sym c.take.ensures.value ∙ c.in-Some.is) in
    let there = passed_at g.N.Node.told g.N.Node.records g.N.Node.laws g.N.Node.PROBES log.scenario log.entries c.args.place c.entry.result w c.in_ok-after.after c.entry.ensures here next v.scenario v.age in
    changes_only r (events_of log.entries) c.args.place w c.in_ok-after.after c.in_ok-after.host here there v.there v.others
