use Rattle.std.proofs.Common.{inl, ◌∙◌}
use Rattle.sim_hunt.specs.Outcomes.{answered}
use Rattle.sim_hunt.proofs.Ends.{line_is, same_outcome}
use Rattle.sim_hunt.proofs.hunts.write_answer.Goals as goal

pub returns-in-Ok : goal.returns-in-Ok
returns-in-Ok g c =
    inl (same_outcome (answered c.args.form c.args.answer) c.status.result c.end_with-in-Ok.result c.as_bytes.result.now _ _ c.status.ensures
    (c.as_bytes.ensures.value ∙ (c.in-Ok.ensures ∙ line_is c.args.form c.args.answer c.in_default.not-BadScript)) c.end_with-in-Ok.ensures)
