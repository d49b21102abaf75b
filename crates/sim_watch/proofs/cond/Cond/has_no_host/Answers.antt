use Rattle.std.proofs.Common.{ap, ◌∙◌}
use Rattle.sim_watch.specs.Condition.{names_no_host, has_no_host}
use Rattle.sim_watch.proofs.Joining.{any_joined}
use Rattle.sim_watch.proofs.cond.Cond.has_no_host.Goals as goal

pub returns : goal.returns
returns c = c.name_no_host.ensures ∙ any_joined (names_no_host c.args.hosts) c.terms.result.now ∙ ap (has_no_host c.args.hosts) c.terms.ensures.value
