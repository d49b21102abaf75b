use Rattle.std.proofs.Common.{◌≤◌, subst, ◌+◌, ◌++◌, ◌∷◌, [], length, sym, ap, ◌∙◌}
use Rattle.sim_world.specs.Clock.{clock_after}
use Rattle.sim_world.specs.Events.{rules}
use Rattle.sim_history.specs.Log.{events_of}
use Rattle.sim_moves.specs.Places.{world_at}
use Rattle.sim_moves.proofs.Placing.{world_at-is, kept_length}
use Rattle.sim_moves.proofs.Walking.{walk_here}
use Rattle.sim_moves.proofs.Stepping.{stepped_at, stepped_walk, stepped_runs, stepped_copy, stepped_work, step_work}
use Rattle.sim_moves.proofs.walk.Walk.step.Goals as goal

pub returns-in_ok-copy-in-Ok-clause-ok : goal.returns-in_ok-copy-in-Ok-clause-ok
returns-in_ok-copy-in-Ok-clause-ok g c =
    let log = c.args.log.now in
    let old = c.args.self.now in
    let r = rules g.N.Node.laws g.N.Node.PROBES log.scenario in
    let w = c.in-Some.world in
    let v = c.in-Ok.ensures in
    let here = walk_here g.N.Node.told g.N.Node.records r (events_of log.entries) (length log.entries) old.world old.ring.items w c.requires.walk (sym c.take.ensures.value ∙ c.in-Some.is) in
    rw (c.put.ensures, c.in_ok-copy-in-Ok.ensures.ring, v.kept.kept)
    (stepped_walk g.N.Node.told g.N.Node.records g.N.Node.laws g.N.Node.PROBES log.scenario log.entries c.args.event old.world w c.in-Ok.after old.ring.items v.kept.undo old.ring.capacity
    c.requires.walk here v.kept.answers v.scenario v.age v.kept.leads v.kept.acted)

pub returns-in_ok-copy-in-Ok-clause-runs : goal.returns-in_ok-copy-in-Ok-clause-runs
returns-in_ok-copy-in-Ok-clause-runs g c =
    let log = c.args.log.now in
    let old = c.args.self.now in
    let r = rules g.N.Node.laws g.N.Node.PROBES log.scenario in
    let w = c.in-Some.world in
    let v = c.in-Ok.ensures in
    let here = walk_here g.N.Node.told g.N.Node.records r (events_of log.entries) (length log.entries) old.world old.ring.items w c.requires.walk (sym c.take.ensures.value ∙ c.in-Some.is) in
    stepped_runs r log.entries c.args.event c.in-Ok.after
    (stepped_at g.N.Node.told g.N.Node.records g.N.Node.laws g.N.Node.PROBES log.scenario log.entries c.args.event w c.in-Ok.after v.kept.undo here v.kept.answers v.scenario v.age)

pub returns-in_ok-copy-in-Ok-clause-clock : goal.returns-in_ok-copy-in-Ok-clause-clock
returns-in_ok-copy-in-Ok-clause-clock g c =
    let log = c.args.log.now in
    let old = c.args.self.now in
    let r = rules g.N.Node.laws g.N.Node.PROBES log.scenario in
    let w = c.in-Some.world in
    let v = c.in-Ok.ensures in
    let here = walk_here g.N.Node.told g.N.Node.records r (events_of log.entries) (length log.entries) old.world old.ring.items w c.requires.walk (sym c.take.ensures.value ∙ c.in-Some.is) in
    c.clock-clock.ensures.value
    ∙ ap (λ x. x.clock)
    (sym (world_at-is r (events_of log.entries ++ c.args.event ∷ []) (length log.entries + 1) c.in-Ok.after
    (stepped_at g.N.Node.told g.N.Node.records g.N.Node.laws g.N.Node.PROBES log.scenario log.entries c.args.event w c.in-Ok.after v.kept.undo here v.kept.answers v.scenario v.age)))

pub returns-in_ok-copy-in-Ok-clause-copy : goal.returns-in_ok-copy-in-Ok-clause-copy
returns-in_ok-copy-in-Ok-clause-copy g c =
    let log = c.args.log.now in
    let old = c.args.self.now in
    let r = rules g.N.Node.laws g.N.Node.PROBES log.scenario in
    let w = c.in-Some.world in
    let v = c.in-Ok.ensures in
    let here = walk_here g.N.Node.told g.N.Node.records r (events_of log.entries) (length log.entries) old.world old.ring.items w c.requires.walk (sym c.take.ensures.value ∙ c.in-Some.is) in
    stepped_copy r (events_of log.entries ++ c.args.event ∷ []) (length log.entries + 1) c.in-Ok.after c.args.asked c.in_ok-copy-in-Ok.copy
    (stepped_at g.N.Node.told g.N.Node.records g.N.Node.laws g.N.Node.PROBES log.scenario log.entries c.args.event w c.in-Ok.after v.kept.undo here v.kept.answers v.scenario v.age) c.in_ok-copy-in-Ok.ensures.copy

pub returns-in_ok-copy-in-Ok-clause-work : goal.returns-in_ok-copy-in-Ok-clause-work
returns-in_ok-copy-in-Ok-clause-work g c =
    let log = c.args.log.now in
    let old = c.args.self.now in
    let r = rules g.N.Node.laws g.N.Node.PROBES log.scenario in
    let w = c.in-Some.world in
    let v = c.in-Ok.ensures in
    let here = walk_here g.N.Node.told g.N.Node.records r (events_of log.entries) (length log.entries) old.world old.ring.items w c.requires.walk (sym c.take.ensures.value ∙ c.in-Some.is) in
    stepped_work r (events_of log.entries ++ c.args.event ∷ []) (length log.entries + 1) c.in-Ok.after c.args.asked _ _
    (stepped_at g.N.Node.told g.N.Node.records g.N.Node.laws g.N.Node.PROBES log.scenario log.entries c.args.event w c.in-Ok.after v.kept.undo here v.kept.answers v.scenario v.age)
    (step_work _ _ _ w.world c.args.event _ v.work c.in_ok-copy-in-Ok.ensures.work)

pub returns-in_ok-copy-in-Ok-clause-moved : goal.returns-in_ok-copy-in-Ok-clause-moved
returns-in_ok-copy-in-Ok-clause-moved g c =
    let log = c.args.log.now in
    let old = c.args.self.now in
    let r = rules g.N.Node.laws g.N.Node.PROBES log.scenario in
    let w = c.in-Some.world in
    let v = c.in-Ok.ensures in
    let here = walk_here g.N.Node.told g.N.Node.records r (events_of log.entries) (length log.entries) old.world old.ring.items w c.requires.walk (sym c.take.ensures.value ∙ c.in-Some.is) in
    let there = stepped_at g.N.Node.told g.N.Node.records g.N.Node.laws g.N.Node.PROBES log.scenario log.entries c.args.event w c.in-Ok.after v.kept.undo here v.kept.answers v.scenario v.age in
    let before = world_at-is r (events_of log.entries) (length log.entries) w here in
    let after = world_at-is r (events_of log.entries ++ c.args.event ∷ []) (length log.entries + 1) c.in-Ok.after there in
    ap (λ x. x.clock) after ∙ v.clock ∙ ap (λ x. clock_after c.args.event x) (sym before)

pub returns-in_ok-copy-in-Ok-clause-on : goal.returns-in_ok-copy-in-Ok-clause-on
returns-in_ok-copy-in-Ok-clause-on g c =
    let log = c.args.log.now in
    let old = c.args.self.now in
    let r = rules g.N.Node.laws g.N.Node.PROBES log.scenario in
    let w = c.in-Some.world in
    let v = c.in-Ok.ensures in
    let here = walk_here g.N.Node.told g.N.Node.records r (events_of log.entries) (length log.entries) old.world old.ring.items w c.requires.walk (sym c.take.ensures.value ∙ c.in-Some.is) in
    let there = stepped_at g.N.Node.told g.N.Node.records g.N.Node.laws g.N.Node.PROBES log.scenario log.entries c.args.event w c.in-Ok.after v.kept.undo here v.kept.answers v.scenario v.age in
    let before = world_at-is r (events_of log.entries) (length log.entries) w here in
    let after = world_at-is r (events_of log.entries ++ c.args.event ∷ []) (length log.entries + 1) c.in-Ok.after there in
    subst (λ x. x.clock ≤ (world_at r (length log.entries + 1) (events_of log.entries ++ c.args.event ∷ [])).clock) (sym before) (subst (λ x. w.world.clock ≤ x.clock) (sym after) v.on)

pub returns-in_ok-copy-in-Ok-clause-reach : goal.returns-in_ok-copy-in-Ok-clause-reach
returns-in_ok-copy-in-Ok-clause-reach g c =
    let old = c.args.self.now in
    let v = c.in-Ok.ensures in
    rw (c.in_ok-copy-in-Ok.ensures.ring, v.kept.kept) (kept_length old.ring.capacity old.ring.items v.kept.undo c.requires.ring)
