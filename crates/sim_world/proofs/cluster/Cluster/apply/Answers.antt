use Rattle.std.proofs.Common.{◌+◌, ◌≡◌, ◌<◌, ◌≤◌, None, length, refl, sym, ap, subst, ◌∙◌, arith}
use Rattle.sim_world.specs.Acts.{turns_of, turned_by, reactions_of}
use Rattle.sim_world.specs.Clock.{clock_after}
use Rattle.sim_world.specs.Events.{rules, after, refusal_of}
use Rattle.sim_world.specs.inside.Held.{IsHeld}
use Rattle.sim_world.specs.inside.Index.{changing_host}
use Rattle.sim_world.specs.Records.{LeadsBack, AnswersFor}
use Rattle.sim_world.specs.Room.{IsReady}
use Rattle.sim_world.specs.inside.Sound.{IsLawfulEvent}
use Rattle.sim_world.proofs.Readies.{ready_of}
use Rattle.sim_world.proofs.Applied.{changing_there, applied_answers, applied_sound, applied_clock, applied_on, applied_leads}
use Rattle.sim_world.proofs.cluster.Cluster.apply.Goals as goal

pub event-requires-clause-there : goal.event-requires-clause-there
event-requires-clause-there g c =
    let i = c.self.inside in
    let laws = g.N.Node.laws in
    let probes = g.N.Node.PROBES in
    let held = subst (λ k. IsHeld g.N.Node.told k) (sym c.self.view_is) c.requires.held in
    let can = subst (λ k. refusal_of (rules laws probes k.scenario) c.args.event k.parts.world ≡ None) (sym c.self.view_is) c.requires.can in
    let lt = changing_there g.N.Node.told laws probes i.scenario.value i.age i.parts.world held.sound c.args.event can in
    let n = held.sound.hosts in
    omega arith

pub event-requires-clause-ready : goal.event-requires-clause-ready
event-requires-clause-ready g c =
    let i = c.self.inside in
    let held = subst (λ k. IsHeld g.N.Node.told k) (sym c.self.view_is) c.requires.held in
    subst (λ s. IsReady g.N.Node.told s.setup i.parts.world) (sym c.deref.ensures)
    (ready_of g.N.Node.told i.scenario.value i.age i.parts.world held.sound)

pub returns-clause-held : goal.returns-clause-held
returns-clause-held g c =
    let i = c.self.inside in
    let laws = g.N.Node.laws in
    let probes = g.N.Node.PROBES in
    let told = g.N.Node.told in
    let held = subst (λ k. IsHeld told k) (sym c.self.view_is) c.requires.held in
    let can = subst (λ k. refusal_of (rules laws probes k.scenario) c.args.event k.parts.world ≡ None) (sym c.self.view_is) c.requires.can in
    let young = subst (λ k. k.age < 65536) (sym c.self.view_is) c.requires.young in
    let v = c.in_ok-event.ensures in
    let is = ap (λ z. z.world) v.world ∙ ap (λ s. after (rules laws probes s) c.args.event i.parts.world) c.deref.ensures in
    let law = subst (λ s. IsLawfulEvent told (rules laws probes s) c.args.event i.parts.world) c.deref.ensures v.lawful in
    record {
      sound = applied_sound told laws probes i.scenario.value i.age i.parts.world held.sound c.event.new.self.world c.args.event young can is law;
      index = v.index;
      seed = ap (λ z. z.seed) v.world ∙ held.seed;
      effects = v.spent ∙ held.effects;
    }

pub returns-clause-clock : goal.returns-clause-clock
returns-clause-clock g c =
    let i = c.self.inside in
    let laws = g.N.Node.laws in
    let probes = g.N.Node.PROBES in
    let told = g.N.Node.told in
    let held = subst (λ k. IsHeld told k) (sym c.self.view_is) c.requires.held in
    let can = subst (λ k. refusal_of (rules laws probes k.scenario) c.args.event k.parts.world ≡ None) (sym c.self.view_is) c.requires.can in
    let young = subst (λ k. k.age < 65536) (sym c.self.view_is) c.requires.young in
    let v = c.in_ok-event.ensures in
    let is = ap (λ z. z.world) v.world ∙ ap (λ s. after (rules laws probes s) c.args.event i.parts.world) c.deref.ensures in
    let law = subst (λ s. IsLawfulEvent told (rules laws probes s) c.args.event i.parts.world) c.deref.ensures v.lawful in
    subst (λ k. c.event.new.self.world.clock ≡ clock_after c.args.event k.parts.world) c.self.view_is
    (applied_clock told laws probes i.scenario.value i.age i.parts.world held.sound c.event.new.self.world c.args.event young can is law)

pub returns-clause-on : goal.returns-clause-on
returns-clause-on g c =
    let i = c.self.inside in
    let laws = g.N.Node.laws in
    let probes = g.N.Node.PROBES in
    let told = g.N.Node.told in
    let held = subst (λ k. IsHeld told k) (sym c.self.view_is) c.requires.held in
    let can = subst (λ k. refusal_of (rules laws probes k.scenario) c.args.event k.parts.world ≡ None) (sym c.self.view_is) c.requires.can in
    let young = subst (λ k. k.age < 65536) (sym c.self.view_is) c.requires.young in
    let v = c.in_ok-event.ensures in
    let is = ap (λ z. z.world) v.world ∙ ap (λ s. after (rules laws probes s) c.args.event i.parts.world) c.deref.ensures in
    let law = subst (λ s. IsLawfulEvent told (rules laws probes s) c.args.event i.parts.world) c.deref.ensures v.lawful in
    subst (λ k. k.parts.world.clock ≤ c.event.new.self.world.clock) c.self.view_is
    (applied_on told laws probes i.scenario.value i.age i.parts.world held.sound c.event.new.self.world c.args.event young can is law)

pub returns-clause-leads : goal.returns-clause-leads
returns-clause-leads g c =
    let i = c.self.inside in
    let laws = g.N.Node.laws in
    let probes = g.N.Node.PROBES in
    let told = g.N.Node.told in
    let held = subst (λ k. IsHeld told k) (sym c.self.view_is) c.requires.held in
    let can = subst (λ k. refusal_of (rules laws probes k.scenario) c.args.event k.parts.world ≡ None) (sym c.self.view_is) c.requires.can in
    let young = subst (λ k. k.age < 65536) (sym c.self.view_is) c.requires.young in
    let v = c.in_ok-event.ensures in
    let is = ap (λ z. z.world) v.world ∙ ap (λ s. after (rules laws probes s) c.args.event i.parts.world) c.deref.ensures in
    let law = subst (λ s. IsLawfulEvent told (rules laws probes s) c.args.event i.parts.world) c.deref.ensures v.lawful in
    let there = changing_there told laws probes i.scenario.value i.age i.parts.world held.sound c.args.event can in
    let n = held.sound.hosts in
    let lt : changing_host c.args.event i.parts.world < length i.parts.world.hosts = omega arith in
    subst (λ b. LeadsBack told g.N.Node.records (record { changes = c.event.new.undo.changes; token = b })
    (record { world = c.event.new.self.world; scenario = i.scenario.value; age = i.age + 1 })) (sym v.token)
    (applied_leads told laws probes i.scenario.value i.age i.parts.world held.sound c.event.new.self.world c.args.event young can is law
    g.N.Node.records c.event.new.undo.changes v.trail
    i.tools.index (changing_host c.args.event i.parts.world) held.index refl lt)

pub event-requires-clause-can : goal.event-requires-clause-can
event-requires-clause-can g c =
    let i = c.self.inside in
    let laws = g.N.Node.laws in
    let probes = g.N.Node.PROBES in
    let can = subst (λ k. refusal_of (rules laws probes k.scenario) c.args.event k.parts.world ≡ None) (sym c.self.view_is) c.requires.can in
    subst (λ s. refusal_of (rules laws probes s) c.args.event i.parts.world ≡ None) (sym c.deref.ensures) can

pub returns-clause-answers : goal.returns-clause-answers
returns-clause-answers g c =
    let i = c.self.inside in
    let laws = g.N.Node.laws in
    let probes = g.N.Node.PROBES in
    let told = g.N.Node.told in
    let held = subst (λ k. IsHeld told k) (sym c.self.view_is) c.requires.held in
    let can = subst (λ k. refusal_of (rules laws probes k.scenario) c.args.event k.parts.world ≡ None) (sym c.self.view_is) c.requires.can in
    let young = subst (λ k. k.age < 65536) (sym c.self.view_is) c.requires.young in
    let v = c.in_ok-event.ensures in
    let is = ap (λ z. z.world) v.world ∙ ap (λ s. after (rules laws probes s) c.args.event i.parts.world) c.deref.ensures in
    let law = subst (λ s. IsLawfulEvent told (rules laws probes s) c.args.event i.parts.world) c.deref.ensures v.lawful in
    subst (λ k. AnswersFor (rules laws probes k.scenario) g.N.Node.records c.event.new.undo.changes k.parts.world c.args.event c.event.new.self.world) c.self.view_is
    (applied_answers told laws probes i.scenario.value i.age i.parts.world held.sound c.event.new.self.world c.args.event young can is law
    g.N.Node.records c.event.new.undo.changes v.trail)

pub returns-clause-scenario : goal.returns-clause-scenario
returns-clause-scenario g c =
    ap (λ k. k.scenario) c.self.view_is

pub returns-clause-age : goal.returns-clause-age
returns-clause-age g c =
    ap (λ k. k.age + 1) c.self.view_is

pub returns-clause-acted : goal.returns-clause-acted
returns-clause-acted g c =
    c.in_ok-event.ensures.acted ∙ ap (λ k. reactions_of k.parts.world c.args.event) c.self.view_is

pub returns-clause-work : goal.returns-clause-work
returns-clause-work g c =
    c.in_ok-event.ensures.work ∙ ap (λ k. turned_by (turns_of k.parts.world c.args.event) (g.N.Meter.Meter.work c.args.meter.now)) c.self.view_is
