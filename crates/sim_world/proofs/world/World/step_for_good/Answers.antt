use Rattle.std.proofs.Common.{◌≡◌, ◌+◌, ◌≤◌, Some, sym, ap, subst, ◌∙◌}
use Rattle.sim_events.specs.declared.Event.TheVariants as event
use Rattle.sim_queue.specs.Pending.{first}
use Rattle.sim_world.specs.Acts.{first_host, acts, turned_if}
use Rattle.sim_world.specs.Clock.{clock_after}
use Rattle.sim_world.specs.Events.{rules, next}
use Rattle.sim_world.specs.inside.Held.{IsHeld, in_hand}
use Rattle.sim_world.proofs.Applied.{can_from, young_from}
use Rattle.sim_world.proofs.world.World.step_for_good.Goals as goal

pub step_for_good-requires-clause-held : goal.step_for_good-requires-clause-held
step_for_good-requires-clause-held g c =
    subst (λ k. IsHeld g.N.Node.told k) (sym c.deref_mut.ensures.value) c.into_cluster-cluster.ensures.held

pub step_for_good-requires-clause-can : goal.step_for_good-requires-clause-can
step_for_good-requires-clause-can g c =
    let is = ap (λ k. in_hand k) c.deref_mut.ensures.value ∙ c.into_cluster-cluster.ensures.same in
    can_from g.N.Node.laws g.N.Node.PROBES _ _ event.Step is c.requires.can

pub step_for_good-requires-clause-young : goal.step_for_good-requires-clause-young
step_for_good-requires-clause-young g c =
    let is = ap (λ k. in_hand k) c.deref_mut.ensures.value ∙ c.into_cluster-cluster.ensures.same in
    young_from _ _ is c.requires.young

pub returns-clause-next : goal.returns-clause-next
returns-clause-next g c =
    let is = ap (λ k. in_hand k) c.deref_mut.ensures.value ∙ c.into_cluster-cluster.ensures.same in
    subst (λ k. next (rules g.N.Node.laws g.N.Node.PROBES k.scenario) k.world event.Step ≡ Some c.step_for_good.new.self.parts.world) is
    c.in_ok-host.ensures.next

pub returns-clause-scenario : goal.returns-clause-scenario
returns-clause-scenario g c =
    let is = ap (λ k. in_hand k) c.deref_mut.ensures.value ∙ c.into_cluster-cluster.ensures.same in
    c.in_ok-host.ensures.scenario ∙ ap (λ k. k.scenario) is

pub returns-clause-age : goal.returns-clause-age
returns-clause-age g c =
    let is = ap (λ k. in_hand k) c.deref_mut.ensures.value ∙ c.into_cluster-cluster.ensures.same in
    c.in_ok-host.ensures.age ∙ ap (λ k. k.age + 1) is

pub returns-clause-work : goal.returns-clause-work
returns-clause-work g c =
    let is = ap (λ k. in_hand k) c.deref_mut.ensures.value ∙ c.into_cluster-cluster.ensures.same in
    c.in_ok-host.ensures.work ∙ ap (λ k. turned_if (acts k.world event.Step) (g.N.Meter.Meter.work c.args.meter.now)) is

pub returns-clause-clock : goal.returns-clause-clock
returns-clause-clock g c =
    let is = ap (λ k. in_hand k) c.deref_mut.ensures.value ∙ c.into_cluster-cluster.ensures.same in
    c.in_ok-host.ensures.clock ∙ ap (λ k. clock_after event.Step k.world) is

pub returns-clause-on : goal.returns-clause-on
returns-clause-on g c =
    let is = ap (λ k. in_hand k) c.deref_mut.ensures.value ∙ c.into_cluster-cluster.ensures.same in
    subst (λ k. k.world.clock ≤ c.step_for_good.new.self.parts.world.clock) is c.in_ok-host.ensures.on

pub returns-clause-host : goal.returns-clause-host
returns-clause-host g c =
    let is = ap (λ k. in_hand k) c.deref_mut.ensures.value ∙ c.into_cluster-cluster.ensures.same in
    c.in_ok-host.ensures.host ∙ ap (λ k. first_host (first k.world.queue.items)) is
