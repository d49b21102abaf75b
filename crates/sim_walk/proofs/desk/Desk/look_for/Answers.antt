use Rattle.std.proofs.Common.{inl, inr, refl}
use Rattle.sim_walk.proofs.desk.Desk.look_for.Goals as goal

pub returns-in-Ok-clause-looks : goal.returns-in-Ok-clause-looks
returns-in-Ok-clause-looks g c = inl (c.in-Ok.place, c.in-Ok.ensures, c.go_to.ensures.turn)

pub returns-in-Err-clause-looks : goal.returns-in-Err-clause-looks
returns-in-Err-clause-looks g c = inr (refl, c.answer_nowhere.ensures)
