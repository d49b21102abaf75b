use Rattle.std.proofs.Common.{◌∙◌, ap}
use Rattle.sim_world.specs.Acts.{running, copied_by}
use Rattle.sim_world.proofs.Packing.{world-same}
use Rattle.sim_world.proofs.packed.PackedWorld.parts.Goals as goal

pub returns-clause-seed : goal.returns-clause-seed
returns-clause-seed g c =
    ap (λ s. s.seed) (c.in_ok-streams.ensures.ok ∙ c.copy.ensures) ∙ (c.self.invariant.seed ∙ ap (λ p. p.scenario.seed) c.self.view_is)

pub returns-clause-world : goal.returns-clause-world
returns-clause-world g c =
    let kept = c.self.inside in
    world-same kept.clock _ kept.streams.places _ kept.queue _ kept.links _ kept.hosts.hosts
    (ap (λ s. s.places) (c.in_ok-streams.ensures.ok ∙ c.copy.ensures)) c.in_ok-queue.ensures c.in_ok-links.ensures c.in_ok-hosts.ensures.hosts
    ∙ ap (λ p. p.world) c.self.view_is

pub returns-clause-work : goal.returns-clause-work
returns-clause-work g c =
    c.in_ok-hosts.ensures.work ∙ ap (λ p. copied_by (running p.world) (g.N.Meter.Meter.work c.args.meter.now)) c.self.view_is
