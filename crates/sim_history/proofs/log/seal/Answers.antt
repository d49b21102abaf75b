use Rattle.std.proofs.Common.{length, ap, ◌∙◌}
use Rattle.sim_history.specs.Segments.{entries_of}
use Rattle.sim_history.proofs.Joined.{AreFull-push}
use Rattle.sim_history.proofs.log.seal.Goals as goal

pub returns-in-Ok-clause-full : goal.returns-in-Ok-clause-full
returns-in-Ok-clause-full c = λ h.
    rw (c.push.ensures, c.in_ok-reserve.ensures.items)
    (AreFull-push entries_of _ _ _ h (ap (λ v. length v.items) (c.in-Ok.ensures.ok ∙ c.replace-full.ensures.value) ∙ c.requires.full))
