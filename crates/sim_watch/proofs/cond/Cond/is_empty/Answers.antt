use Rattle.std.proofs.Common.{ap, ◌∙◌}
use Rattle.sim_watch.specs.Condition.{is_empty}
use Rattle.sim_watch.proofs.Joining.{empty_joined}
use Rattle.sim_watch.proofs.cond.Cond.is_empty.Goals as goal

pub returns : goal.returns
returns c = c.is_empty.ensures ∙ empty_joined c.terms.result.now ∙ ap is_empty c.terms.ensures.value
