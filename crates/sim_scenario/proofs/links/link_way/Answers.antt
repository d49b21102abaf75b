use Rattle.std.proofs.Common.{Ok, Err}
use Rattle.sim_scenario.proofs.Given.{Gives-passed}
use Rattle.sim_scenario.proofs.Linking.{way_from, way_to_end}
use Rattle.sim_scenario.proofs.links.link_way.Goals as goal

pub returns-in_err-latency_max : goal.returns-in_err-latency_max
returns-in_err-latency_max c =
    Gives-passed _ c.from_residual-in_err-latency_max.result c.in_err-latency_max.field-0.0 _ c.from_residual-in_err-latency_max.ensures.1
    (λ other. way_from _ _ _ c.in_ok-latency_min.ensures (c.in_err-latency_max.ensures other))

pub returns-in_err-loss : goal.returns-in_err-loss
returns-in_err-loss c =
    Gives-passed _ c.from_residual-in_err-loss.result c.in_err-loss.field-0.0 _ c.from_residual-in_err-loss.ensures.1
    (λ other. way_to_end _ _ _ _ c.in_ok-latency_min.ensures c.in_ok-latency_max.ensures (c.in_err-loss.ensures other))

pub returns : goal.returns
returns c = way_to_end _ _ _ _ c.in_ok-latency_min.ensures c.in_ok-latency_max.ensures c.in_ok-loss.ensures
