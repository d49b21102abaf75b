use Rattle.std.proofs.Common.{◌∙◌, [], ap, sym, refl}
use Rattle.sim_events.specs.Scenario.{Scenario}
use Rattle.sim_world.proofs.Packing.{hand-same, opened-held}
use Rattle.sim_world.proofs.packed.PackedWorld.cluster.Goals as goal

pub returns-clause-same : goal.returns-clause-same
returns-clause-same g c =
    hand-same _ c.args.self.now c.in_ok-parts.parts.world c.in_ok-scenario.scenario.value c.self.view_is
    (c.in_ok-parts.ensures.world ∙ sym (ap (λ p. p.world) c.self.view_is)) c.in_ok-scenario.ensures

pub returns-clause-held : goal.returns-clause-held
returns-clause-held g c =
    let hosts = ap (λ (s : Scenario). s.setup.hosts) c.deref.ensures in
    let effects = c.in_ok-effects.ensures ∙ ap (λ n. record { hosts = n; list = [] }) (ap (λ x. x.hosts) c.setup-setup.ensures.value ∙ hosts) in
    opened-held g.N.Node.told _ c.args.self.now c.self.inside.streams.seed c.self.inside.in_flight c.self.inside.held c.self.inside.hosts.timers c.self.inside.hosts.others _
    c.self.invariant c.self.view_is c.in_ok-parts.ensures.world c.in_ok-parts.ensures.seed c.in_ok-index.ensures effects c.in_ok-scenario.ensures refl

pub returns-clause-work : goal.returns-clause-work
returns-clause-work g c = c.in_ok-parts.ensures.work
