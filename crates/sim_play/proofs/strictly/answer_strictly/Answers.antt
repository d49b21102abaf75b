use Rattle.sim_play.proofs.StrictRuns.{bad_part}
use Rattle.sim_play.proofs.strictly.answer_strictly.Goals as goal

pub returns-in-Err-clause-answers : goal.returns-in-Err-clause-answers
returns-in-Err-clause-answers g c = bad_part _ _ _ _ _ _ _ c.in-Bad.ensures c.in-Err.ensures
