use Rattle.std.proofs.Common.{ap, ◌∙◌}
use Rattle.sim_plan.proofs.Plans.{forecast_is}
use Rattle.sim_plan.proofs.planner.forecast.Goals as goal

pub returns-clause-events : goal.returns-clause-events
returns-clause-events c =
    forecast_is c.args.scenario.now c.args.plan c.args.seed c.from_seed-rng.result c.set_stream.new.self c.from.result c.from-2.result
    c.requires.seed c.from_seed-rng.ensures c.set_stream.ensures (c.from.ensures ∙ ap (λ s. s.servers) c.setup-setup.ensures.value)
    (c.from-2.ensures ∙ ap (λ s. s.hosts) c.setup-setup.ensures.value)
