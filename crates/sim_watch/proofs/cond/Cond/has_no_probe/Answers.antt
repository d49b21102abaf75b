use Rattle.std.proofs.Common.{ap, ◌∙◌}
use Rattle.sim_watch.specs.Condition.{names_no_probe, has_no_probe}
use Rattle.sim_watch.proofs.Joining.{any_joined}
use Rattle.sim_watch.proofs.cond.Cond.has_no_probe.Goals as goal

pub returns : goal.returns
returns c = c.name_no_probe.ensures ∙ any_joined (names_no_probe c.args.probes) c.terms.result.now ∙ ap (has_no_probe c.args.probes) c.terms.ensures.value
