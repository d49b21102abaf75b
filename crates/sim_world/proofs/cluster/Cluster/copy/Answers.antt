use Rattle.std.proofs.Common.{ap, ◌∙◌}
use Rattle.sim_world.specs.Acts.{running, copied_by}
use Rattle.sim_world.proofs.cluster.Cluster.copy.Goals as goal

pub returns-clause-parts : goal.returns-clause-parts
returns-clause-parts g c = c.in_ok-parts.ensures.parts ∙ ap (λ k. k.parts) c.self.view_is

pub returns-clause-in_flight : goal.returns-clause-in_flight
returns-clause-in_flight g c = c.in_ok-index.ensures.in_flight ∙ ap (λ k. k.index.in_flight) c.self.view_is

pub returns-clause-held : goal.returns-clause-held
returns-clause-held g c = c.in_ok-index.ensures.held ∙ ap (λ k. k.index.held) c.self.view_is

pub returns-clause-timers : goal.returns-clause-timers
returns-clause-timers g c = c.in_ok-index.ensures.timers ∙ ap (λ k. k.index.timers.items) c.self.view_is

pub returns-clause-others : goal.returns-clause-others
returns-clause-others g c = c.in_ok-index.ensures.others ∙ ap (λ k. k.index.others.items) c.self.view_is

pub returns-clause-age : goal.returns-clause-age
returns-clause-age g c = ap (λ k. k.age) c.self.view_is

pub returns-clause-work : goal.returns-clause-work
returns-clause-work g c =
    c.in_ok-parts.ensures.work ∙ ap (λ k. copied_by (running k.parts.world) (g.N.Meter.Meter.work c.args.meter.now)) c.self.view_is

pub returns-clause-scenario : goal.returns-clause-scenario
returns-clause-scenario g c =
    c.in_ok-scenario.ensures ∙ ap (λ k. k.scenario) c.self.view_is
