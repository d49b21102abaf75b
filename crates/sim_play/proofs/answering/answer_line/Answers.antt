use Rattle.std.proofs.Common.{refl, ◌∙◌}
use Rattle.sim_cli.proofs.OneAnswer.{bad_answer, turn_answer}
use Rattle.sim_play.proofs.answering.answer_line.Goals as goal

pub returns-in-Bad-clause-answers : goal.returns-in-Bad-clause-answers
returns-in-Bad-clause-answers g c = bad_answer _ _ _ _ _ _ _ _ _ _ c.in-Bad.ensures refl c.hand.ensures

pub returns-in-Ok-clause-answers : goal.returns-in-Ok-clause-answers
returns-in-Ok-clause-answers g c =
    turn_answer _ _ _ _ _ c.in-Asked.ask c.turn_of-turn.result _ _ _ _ _ _ c.in-Asked.ensures c.turn_of-turn.ensures.takes (c.as_slice.ensures.value ∙ c.in-Ok.ensures) c.hand-in-Ok.ensures
