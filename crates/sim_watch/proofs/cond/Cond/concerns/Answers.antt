use Rattle.std.proofs.Common.{ap, ◌∙◌}
use Rattle.std.specs.List.{list_any}
use Rattle.sim_watch.specs.Condition.{Cond, terms, concerns}
use Rattle.sim_watch.proofs.Joining.{any_joined}
use Rattle.sim_watch.proofs.cond.Cond.concerns.Goals as goal

pub returns : goal.returns
returns c = c.concern.ensures ∙ any_joined (concerns c.args.host) c.terms.result.now ∙ ap (λ (x : Cond). list_any (concerns c.args.host) (terms x)) c.terms.ensures.value
