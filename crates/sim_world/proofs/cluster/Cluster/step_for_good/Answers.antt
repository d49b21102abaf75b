use Rattle.std.proofs.Common.{◌≡◌, ◌+◌, ◌<◌, ◌≤◌, None, Some, sym, ap, subst, ◌∙◌, arith}
use Rattle.sim_queue.specs.Pending.{first}
use Rattle.sim_events.specs.declared.Event.TheVariants as event
use Rattle.sim_world.specs.Acts.{first_host, acts, turned_if}
use Rattle.sim_world.specs.Clock.{clock_after}
use Rattle.sim_world.specs.Events.{rules, stepped, next, refusal_of}
use Rattle.sim_world.specs.inside.Held.{IsHeld}
use Rattle.sim_world.specs.Room.{IsReady}
use Rattle.sim_world.specs.inside.Sound.{IsLawfulStep}
use Rattle.sim_world.proofs.Readies.{ready_of}
use Rattle.sim_world.proofs.Applied.{changing_there, applied_next, applied_sound, applied_clock, applied_on}
use Rattle.sim_world.proofs.cluster.Cluster.step_for_good.Goals as goal

pub step_for_good-requires-clause-ready : goal.step_for_good-requires-clause-ready
step_for_good-requires-clause-ready g c =
    let i = c.self.inside in
    let held = subst (λ k. IsHeld g.N.Node.told k) (sym c.self.view_is) c.requires.held in
    subst (λ s. IsReady g.N.Node.told s.setup i.parts.world) (sym c.deref.ensures)
    (ready_of g.N.Node.told i.scenario.value i.age i.parts.world held.sound)

pub returns-clause-held : goal.returns-clause-held
returns-clause-held g c =
    let i = c.self.inside in
    let laws = g.N.Node.laws in
    let probes = g.N.Node.PROBES in
    let told = g.N.Node.told in
    let held = subst (λ k. IsHeld told k) (sym c.self.view_is) c.requires.held in
    let can = subst (λ k. refusal_of (rules laws probes k.scenario) event.Step k.parts.world ≡ None) (sym c.self.view_is) c.requires.can in
    let young = subst (λ k. k.age < 65536) (sym c.self.view_is) c.requires.young in
    let v = c.in_ok-host.ensures in
    let is = ap (λ z. z.world) v.world ∙ ap (λ s. stepped (rules laws probes s) i.parts.world) c.deref.ensures in
    let law = subst (λ s. IsLawfulStep told (rules laws probes s) (first i.parts.world.queue.items) i.parts.world) c.deref.ensures v.lawful in
    record {
      sound = applied_sound told laws probes i.scenario.value i.age i.parts.world held.sound c.step_for_good.new.self.world event.Step young can is law;
      index = v.index;
      seed = ap (λ z. z.seed) v.world ∙ held.seed;
      effects = v.spent ∙ held.effects;
    }

pub returns-clause-there : goal.returns-clause-there
returns-clause-there g c =
    let i = c.self.inside in
    let laws = g.N.Node.laws in
    let probes = g.N.Node.PROBES in
    let told = g.N.Node.told in
    let held = subst (λ k. IsHeld told k) (sym c.self.view_is) c.requires.held in
    let can = subst (λ k. refusal_of (rules laws probes k.scenario) event.Step k.parts.world ≡ None) (sym c.self.view_is) c.requires.can in
    let lt = changing_there told laws probes i.scenario.value i.age i.parts.world held.sound event.Step can in
    let few = held.sound.scenario.setup.hosts in
    let is = c.in_ok-host.ensures.host in
    omega arith

pub step_for_good-requires-clause-seed : goal.step_for_good-requires-clause-seed
step_for_good-requires-clause-seed g c =
    let held = subst (λ k. IsHeld g.N.Node.told k) (sym c.self.view_is) c.requires.held in
    held.seed ∙ ap (λ s. s.seed) (sym c.deref.ensures)

pub returns-clause-next : goal.returns-clause-next
returns-clause-next g c =
    let i = c.self.inside in
    let laws = g.N.Node.laws in
    let probes = g.N.Node.PROBES in
    let told = g.N.Node.told in
    let held = subst (λ k. IsHeld told k) (sym c.self.view_is) c.requires.held in
    let can = subst (λ k. refusal_of (rules laws probes k.scenario) event.Step k.parts.world ≡ None) (sym c.self.view_is) c.requires.can in
    let young = subst (λ k. k.age < 65536) (sym c.self.view_is) c.requires.young in
    let v = c.in_ok-host.ensures in
    let is = ap (λ z. z.world) v.world ∙ ap (λ s. stepped (rules laws probes s) i.parts.world) c.deref.ensures in
    let law = subst (λ s. IsLawfulStep told (rules laws probes s) (first i.parts.world.queue.items) i.parts.world) c.deref.ensures v.lawful in
    subst (λ k. next (rules laws probes k.scenario) k.parts.world event.Step ≡ Some c.step_for_good.new.self.world) c.self.view_is
    (applied_next told laws probes i.scenario.value i.age i.parts.world held.sound c.step_for_good.new.self.world event.Step young can is law)

pub returns-clause-scenario : goal.returns-clause-scenario
returns-clause-scenario g c =
    ap (λ k. k.scenario) c.self.view_is

pub returns-clause-age : goal.returns-clause-age
returns-clause-age g c =
    ap (λ k. k.age + 1) c.self.view_is

pub returns-clause-work : goal.returns-clause-work
returns-clause-work g c =
    c.in_ok-host.ensures.work ∙ ap (λ k. turned_if (acts k.parts.world event.Step) (g.N.Meter.Meter.work c.args.meter.now)) c.self.view_is

pub returns-clause-host : goal.returns-clause-host
returns-clause-host g c =
    c.in_ok-host.ensures.host ∙ ap (λ k. first_host (first k.parts.world.queue.items)) c.self.view_is

pub returns-clause-clock : goal.returns-clause-clock
returns-clause-clock g c =
    let i = c.self.inside in
    let laws = g.N.Node.laws in
    let probes = g.N.Node.PROBES in
    let told = g.N.Node.told in
    let held = subst (λ k. IsHeld told k) (sym c.self.view_is) c.requires.held in
    let can = subst (λ k. refusal_of (rules laws probes k.scenario) event.Step k.parts.world ≡ None) (sym c.self.view_is) c.requires.can in
    let young = subst (λ k. k.age < 65536) (sym c.self.view_is) c.requires.young in
    let v = c.in_ok-host.ensures in
    let is = ap (λ z. z.world) v.world ∙ ap (λ s. stepped (rules laws probes s) i.parts.world) c.deref.ensures in
    let law = subst (λ s. IsLawfulStep told (rules laws probes s) (first i.parts.world.queue.items) i.parts.world) c.deref.ensures v.lawful in
    subst (λ k. c.step_for_good.new.self.world.clock ≡ clock_after event.Step k.parts.world) c.self.view_is
    (applied_clock told laws probes i.scenario.value i.age i.parts.world held.sound c.step_for_good.new.self.world event.Step young can is law)

pub returns-clause-on : goal.returns-clause-on
returns-clause-on g c =
    let i = c.self.inside in
    let laws = g.N.Node.laws in
    let probes = g.N.Node.PROBES in
    let told = g.N.Node.told in
    let held = subst (λ k. IsHeld told k) (sym c.self.view_is) c.requires.held in
    let can = subst (λ k. refusal_of (rules laws probes k.scenario) event.Step k.parts.world ≡ None) (sym c.self.view_is) c.requires.can in
    let young = subst (λ k. k.age < 65536) (sym c.self.view_is) c.requires.young in
    let v = c.in_ok-host.ensures in
    let is = ap (λ z. z.world) v.world ∙ ap (λ s. stepped (rules laws probes s) i.parts.world) c.deref.ensures in
    let law = subst (λ s. IsLawfulStep told (rules laws probes s) (first i.parts.world.queue.items) i.parts.world) c.deref.ensures v.lawful in
    subst (λ k. k.parts.world.clock ≤ c.step_for_good.new.self.world.clock) c.self.view_is
    (applied_on told laws probes i.scenario.value i.age i.parts.world held.sound c.step_for_good.new.self.world event.Step young can is law)
