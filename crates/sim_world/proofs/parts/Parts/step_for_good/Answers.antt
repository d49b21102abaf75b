use Rattle.std.proofs.Common.{sym, ap, ◌∙◌}
use Rattle.sim_queue.specs.Pending.{first}
use Rattle.sim_world.specs.World.{host_at, on_world}
use Rattle.sim_world.specs.Acts.{turned_if, first_host}
use Rattle.sim_world.specs.Events.{rules, happened, begun, stepped_by}
use Rattle.sim_world.proofs.FirstGiven.{first_counted, given_first, stepped_first, acts_first}
use Rattle.sim_world.proofs.OneHost.{host_after_step}
use Rattle.sim_world.proofs.Plain.{seeded, world}
use Rattle.sim_world.proofs.parts.Parts.step_for_good.Goals as goal

pub happen-requires-clause-given : goal.happen-requires-clause-given
happen-requires-clause-given g c =
    let i = c.self.inside in
    let p = c.args.self.now in
    let x = c.in-Some.item in
    let t = c.in-Some.ensures in
    let o = c.occurrence.inside in
    let n = c.forget.ensures in
    let v = seeded i.streams.value.seed (world x.due i.streams.value.places c.take_first.new.self i.links i.hosts.items) in
    let first_is = ap (λ z. first z.world.queue.items) (sym c.self.view_is) ∙ sym t.item in
    let b = ap (λ q. seeded i.streams.value.seed (world x.due i.streams.value.places q i.links i.hosts.items)) t.rest ∙ ap (on_world (begun x)) c.self.view_is in
    given_first g.N.Node.told c.args.sc.now p v x o.host o.covered o.input c.args.tools.now.index c.forget.new.self c.args.tools.now.effects
    c.occurrence.view_is first_is b c.requires.seed c.requires.ready c.requires.index c.requires.spent n.in_flight n.held n.timers n.others

pub returns-clause-others : goal.returns-clause-others
returns-clause-others g c = λ k apart.
    let i = c.self.inside in
    let rule = rules g.N.Node.laws g.N.Node.PROBES c.args.sc.now in
    let w = c.args.self.now.world in
    let x = c.in-Some.item in
    let t = c.in-Some.ensures in
    let now = world x.due i.streams.value.places c.take_first.new.self i.links i.hosts.items in
    let first_is = ap (λ v. first v.world.queue.items) (sym c.self.view_is) ∙ sym t.item in
    let host_is = ap first_host first_is ∙ sym (ap (λ z. z.host) c.occurrence.view_is) in
    let b = ap (λ q. seeded i.streams.value.seed (world x.due i.streams.value.places q i.links i.hosts.items)) t.rest ∙ ap (on_world (begun x)) c.self.view_is in
    let stepped_is =
    ap (λ v. v.world) c.in_ok-happen.ensures.world
    ∙ (ap (λ z. happened rule z now) c.occurrence.view_is
    ∙ (ap (λ v. happened rule x.body v.world) b
    ∙ ap (λ f. stepped_by rule f w) (sym first_is))) in
    ap (host_at k) stepped_is ∙ host_after_step rule k w (λ e. apart (e ∙ host_is))

pub returns-clause-world : goal.returns-clause-world
returns-clause-world g c =
    let i = c.self.inside in
    let x = c.in-Some.item in
    let t = c.in-Some.ensures in
    let o = c.occurrence.inside in
    let v = seeded i.streams.value.seed (world x.due i.streams.value.places c.take_first.new.self i.links i.hosts.items) in
    let first_is = ap (λ z. first z.world.queue.items) (sym c.self.view_is) ∙ sym t.item in
    let b = ap (λ q. seeded i.streams.value.seed (world x.due i.streams.value.places q i.links i.hosts.items)) t.rest ∙ ap (on_world (begun x)) c.self.view_is in
    stepped_first c.args.self.now v x o.host o.covered o.input c.occurrence.view_is first_is b
    (rules g.N.Node.laws g.N.Node.PROBES c.args.sc.now) c.happen.new.self c.in_ok-happen.ensures.world

pub returns-clause-host : goal.returns-clause-host
returns-clause-host g c =
    let first_is = ap (λ z. first z.world.queue.items) (sym c.self.view_is) ∙ sym c.in-Some.ensures.item in
    ap (λ z. z.host) c.occurrence.view_is ∙ sym (ap first_host first_is)

pub returns-clause-work : goal.returns-clause-work
returns-clause-work g c =
    let i = c.self.inside in
    let x = c.in-Some.item in
    let t = c.in-Some.ensures in
    let o = c.occurrence.inside in
    let v = seeded i.streams.value.seed (world x.due i.streams.value.places c.take_first.new.self i.links i.hosts.items) in
    let first_is = ap (λ z. first z.world.queue.items) (sym c.self.view_is) ∙ sym t.item in
    let b = ap (λ q. seeded i.streams.value.seed (world x.due i.streams.value.places q i.links i.hosts.items)) t.rest ∙ ap (on_world (begun x)) c.self.view_is in
    c.in_ok-happen.ensures.work ∙ ap (λ a. turned_if a (g.N.Meter.Meter.work c.args.meter.now)) (acts_first c.args.self.now v x o.host o.covered o.input c.occurrence.view_is first_is b)

pub forget-requires-clause-other : goal.forget-requires-clause-other
forget-requires-clause-other g c =
    let ix = c.args.tools.now.index in
    let first_is = ap (λ z. first z.world.queue.items) (sym c.self.view_is) ∙ sym c.in-Some.ensures.item in
    first_counted g.N.Node.told c.args.sc.now.setup c.args.self.now.world c.in-Some.item ix first_is c.requires.ready c.requires.index
