use Rattle.std.proofs.Common.{length, ap, ◌∙◌}
use Rattle.std.proofs.lemmas.List.{length-map}
use Rattle.std.specs.Arc.{arc_value}
use Rattle.sim_history.specs.Segments.{values_of}
use Rattle.sim_history.proofs.Joined.{AreFull-push}
use Rattle.sim_history.proofs.shared_list.seal.Goals as goal

pub returns-in-Ok-clause-full : goal.returns-in-Ok-clause-full
returns-in-Ok-clause-full g c = λ h.
    rw (c.push_reserved.ensures.items, c.in_ok-reserve.ensures.items)
    (AreFull-push values_of 8 _ _ h (length-map _ arc_value ∙ ap (λ v. length v.items) (c.in-Ok.ensures.ok ∙ c.replace-full.ensures.value) ∙ c.requires))
