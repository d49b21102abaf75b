use Rattle.std.proofs.Common.{Bool, List, ap, ◌∙◌}
use Rattle.sim_shrink.specs.Choices.{kept_by}
use Rattle.sim_shrink.proofs.Kept.{all_kept}
use Rattle.sim_shrink.proofs.choice.all_stay.Goals as goal

pub returns : goal.returns
returns c =
    ap (λ (xs : List Bool). kept_by xs c.args.events.now) (c.in_ok-stays.ensures.items_if_clones_equal (λ y same. same))
    ∙ all_kept c.count_of_faults.result c.args.events.now c.count_of_faults.ensures
