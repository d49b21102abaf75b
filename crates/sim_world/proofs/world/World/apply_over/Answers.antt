use Rattle.std.proofs.Common.{◌+◌, ◌≤◌, sym, ap, subst, ◌∙◌}
use Rattle.sim_world.specs.Acts.{reactions_of, turns_of, turned_by}
use Rattle.sim_world.specs.Clock.{clock_after}
use Rattle.sim_world.specs.Events.{rules}
use Rattle.sim_world.specs.inside.Held.{IsHeld, in_hand}
use Rattle.sim_world.specs.Records.{AnswersFor}
use Rattle.sim_world.proofs.Applied.{can_from, young_from}
use Rattle.sim_world.proofs.world.World.apply_over.Goals as goal

pub returns-clause-answers : goal.returns-clause-answers
returns-clause-answers g c =
    let is = ap (λ k. in_hand k) (c.deref_mut-2.ensures.value ∙ (c.take_over.ensures ∙ c.deref_mut.ensures.value)) ∙ c.into_cluster-cluster.ensures.same in
    subst (λ k. AnswersFor (rules g.N.Node.laws g.N.Node.PROBES k.scenario) g.N.Node.records c.apply.new.undo.changes k.world c.args.event c.apply.new.self.parts.world) is
    c.in_ok-apply.ensures.answers

pub returns-clause-clock : goal.returns-clause-clock
returns-clause-clock g c =
    let is = ap (λ k. in_hand k) (c.deref_mut-2.ensures.value ∙ (c.take_over.ensures ∙ c.deref_mut.ensures.value)) ∙ c.into_cluster-cluster.ensures.same in
    c.in_ok-apply.ensures.clock ∙ ap (λ k. clock_after c.args.event k.world) is

pub returns-clause-on : goal.returns-clause-on
returns-clause-on g c =
    let is = ap (λ k. in_hand k) (c.deref_mut-2.ensures.value ∙ (c.take_over.ensures ∙ c.deref_mut.ensures.value)) ∙ c.into_cluster-cluster.ensures.same in
    subst (λ k. k.world.clock ≤ c.apply.new.self.parts.world.clock) is c.in_ok-apply.ensures.on

pub returns-clause-scenario : goal.returns-clause-scenario
returns-clause-scenario g c =
    let is = ap (λ k. in_hand k) (c.deref_mut-2.ensures.value ∙ (c.take_over.ensures ∙ c.deref_mut.ensures.value)) ∙ c.into_cluster-cluster.ensures.same in
    c.in_ok-apply.ensures.scenario ∙ ap (λ k. k.scenario) is

pub returns-clause-age : goal.returns-clause-age
returns-clause-age g c =
    let is = ap (λ k. in_hand k) (c.deref_mut-2.ensures.value ∙ (c.take_over.ensures ∙ c.deref_mut.ensures.value)) ∙ c.into_cluster-cluster.ensures.same in
    c.in_ok-apply.ensures.age ∙ ap (λ k. k.age + 1) is

pub returns-clause-acted : goal.returns-clause-acted
returns-clause-acted g c =
    let is = ap (λ k. in_hand k) (c.deref_mut-2.ensures.value ∙ (c.take_over.ensures ∙ c.deref_mut.ensures.value)) ∙ c.into_cluster-cluster.ensures.same in
    c.in_ok-apply.ensures.acted ∙ ap (λ k. reactions_of k.world c.args.event) is

pub returns-clause-work : goal.returns-clause-work
returns-clause-work g c =
    let is = ap (λ k. in_hand k) (c.deref_mut-2.ensures.value ∙ (c.take_over.ensures ∙ c.deref_mut.ensures.value)) ∙ c.into_cluster-cluster.ensures.same in
    c.in_ok-apply.ensures.work ∙ ap (λ k. turned_by (turns_of k.world c.args.event) (g.N.Meter.Meter.work c.args.meter.now)) is

pub apply-requires-clause-held : goal.apply-requires-clause-held
apply-requires-clause-held g c =
    let is = c.deref_mut-2.ensures.value ∙ (c.take_over.ensures ∙ c.deref_mut.ensures.value) in
    subst (λ k. IsHeld g.N.Node.told k) (sym is) c.into_cluster-cluster.ensures.held

pub apply-requires-clause-can : goal.apply-requires-clause-can
apply-requires-clause-can g c =
    let is = ap (λ k. in_hand k) (c.deref_mut-2.ensures.value ∙ (c.take_over.ensures ∙ c.deref_mut.ensures.value)) ∙ c.into_cluster-cluster.ensures.same in
    can_from g.N.Node.laws g.N.Node.PROBES _ _ c.args.event is c.requires.can

pub apply-requires-clause-young : goal.apply-requires-clause-young
apply-requires-clause-young g c =
    let is = ap (λ k. in_hand k) (c.deref_mut-2.ensures.value ∙ (c.take_over.ensures ∙ c.deref_mut.ensures.value)) ∙ c.into_cluster-cluster.ensures.same in
    young_from _ _ is c.requires.young

pub returns-clause-leads : goal.returns-clause-leads
returns-clause-leads g c = c.in_ok-apply.ensures.leads
