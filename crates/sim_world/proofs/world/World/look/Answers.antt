use Rattle.std.proofs.Common.{sym, ap, ◌∙◌}
use Rattle.sim_world.specs.Events.{rules}
use Rattle.sim_world.specs.Looks.{looked}
use Rattle.sim_events.specs.declared.Query.TheVariants as query
use Rattle.sim_world.proofs.world.World.look.Goals as goal

pub returns-in-Summary : goal.returns-in-Summary
returns-in-Summary g c =
    let r = rules g.N.Node.laws g.N.Node.PROBES c.args.self.now.scenario in
    let same = ap (λ k. k.parts.world) (c.cluster.view_is ∙ c.deref-cluster.ensures) ∙ ap (λ v. v.world) c.self.view_is in
    c.summary.ensures r ∙ (ap (λ w. looked r query.Summary w) same ∙ ap (λ q. looked r q c.args.self.now.world) (sym c.in-Summary.is))

pub returns-in-HostView : goal.returns-in-HostView
returns-in-HostView g c =
    let r = rules g.N.Node.laws g.N.Node.PROBES c.args.self.now.scenario in
    let same = ap (λ k. k.parts.world) (c.cluster.view_is ∙ c.deref-cluster.ensures) ∙ ap (λ v. v.world) c.self.view_is in
    c.host_view.ensures r ∙ (ap (λ w. looked r (query.HostView c.in-HostView.h) w) same ∙ ap (λ q. looked r q c.args.self.now.world) (sym c.in-HostView.is))

pub returns-in-Link : goal.returns-in-Link
returns-in-Link g c =
    let r = rules g.N.Node.laws g.N.Node.PROBES c.args.self.now.scenario in
    let same = ap (λ k. k.parts.world) (c.cluster.view_is ∙ c.deref-cluster.ensures) ∙ ap (λ v. v.world) c.self.view_is in
    c.link_view.ensures r ∙ (ap (λ w. looked r (query.Link c.in-Link.a c.in-Link.b) w) same ∙ ap (λ q. looked r q c.args.self.now.world) (sym c.in-Link.is))
