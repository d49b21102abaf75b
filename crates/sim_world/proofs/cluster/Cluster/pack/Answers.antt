use Rattle.std.proofs.Common.{◌∙◌, ap, is_some}
use Rattle.std.specs.List.{count_by}
use Rattle.sim_world.specs.Acts.{copied_by}
use Rattle.sim_world.specs.inside.Held.{in_hand}
use Rattle.sim_world.proofs.Packing.{hand-same, packed-same, world-same}
use Rattle.sim_world.proofs.cluster.Cluster.pack.Goals as goal

pub invariant_of-result : goal.invariant_of-result
invariant_of-result g c =
    let k = c.args.self.now in
    let parts = c.parts.inside in
    let streams = c.copy.ensures ∙ c.deref.ensures in
    let hosts = ap (λ h. h.hosts) c.in_ok-hosts.ensures.hosts ∙ c.as_slice.ensures.value in
    let world = world-same parts.clock _ parts.streams.value.places _ parts.queue _ parts.links _ parts.hosts.items
    (ap (λ s. s.places) streams) c.in_ok-queue.ensures c.in_ok-links.ensures hosts ∙ ap (λ p. p.world) c.parts.view_is in
    let same = hand-same _ (in_hand k) _ c.in_ok-scenario.scenario.value (ap (λ x. in_hand x) c.self.view_is) world c.in_ok-scenario.ensures in
    packed-same g.N.Node.told k c.copy.result.seed c.self.inside.tools.index.in_flight c.self.inside.tools.index.held c.in_ok-hosts.hosts.timers c.in_ok-hosts.hosts.others _
    c.requires same
    (ap (λ s. s.seed) streams ∙ (ap (λ p. p.seed) c.parts.view_is ∙ ap (λ x. x.parts.seed) c.self.view_is))
    (ap (λ x. x.index.in_flight) c.self.view_is) (ap (λ x. x.index.held) c.self.view_is)
    (ap (λ h. h.timers) c.in_ok-hosts.ensures.hosts ∙ (c.as_slice-timers.ensures.value ∙ ap (λ x. x.index.timers.items) c.self.view_is))
    (ap (λ h. h.others) c.in_ok-hosts.ensures.hosts ∙ (c.as_slice-others.ensures.value ∙ ap (λ x. x.index.others.items) c.self.view_is))

pub returns-clause-same : goal.returns-clause-same
returns-clause-same g c =
    let k = c.args.self.now in
    let parts = c.parts.inside in
    let streams = c.copy.ensures ∙ c.deref.ensures in
    let hosts = ap (λ h. h.hosts) c.in_ok-hosts.ensures.hosts ∙ c.as_slice.ensures.value in
    let world = world-same parts.clock _ parts.streams.value.places _ parts.queue _ parts.links _ parts.hosts.items
    (ap (λ s. s.places) streams) c.in_ok-queue.ensures c.in_ok-links.ensures hosts ∙ ap (λ p. p.world) c.parts.view_is in
    hand-same _ (in_hand k) _ c.in_ok-scenario.scenario.value (ap (λ x. in_hand x) c.self.view_is) world c.in_ok-scenario.ensures

pub returns-clause-work : goal.returns-clause-work
returns-clause-work g c =
    let work = g.N.Meter.Meter.work c.args.meter.now in
    let hosts = c.as_slice.ensures.value ∙ (ap (λ p. p.world.hosts) c.parts.view_is ∙ ap (λ k. k.parts.world.hosts) c.self.view_is) in
    c.in_ok-hosts.ensures.work ∙ ap (λ hs. copied_by (count_by (λ host. is_some host.node) hs) work) hosts
