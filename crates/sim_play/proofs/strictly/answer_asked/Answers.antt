use Rattle.std.proofs.Common.{◌∙◌}
use Rattle.sim_play.proofs.StrictRuns.{asked_ill, asked_part, asked_well}
use Rattle.sim_play.proofs.strictly.answer_asked.Goals as goal

-- the writer failed in the answer
pub returns-in-Err-hand_over-clause-answers : goal.returns-in-Err-hand_over-clause-answers
returns-in-Err-hand_over-clause-answers g c =
    asked_part _ _ _ _ c.args.ask c.turn_of-turn.result c.fault_of_turn-fault.result _ _ _ _ c.turn_of-turn.ensures.takes (c.as_slice.ensures.value ∙ c.in-Ok.ensures) c.in-Err-hand_over.ensures

-- the line is at fault
pub returns-in-Some-clause-answers : goal.returns-in-Some-clause-answers
returns-in-Some-clause-answers g c =
    asked_ill _ _ _ _ c.args.ask c.turn_of-turn.result c.fault_of_turn-fault.result _ _ _ _ c.turn_of-turn.ensures.takes (c.as_slice.ensures.value ∙ c.in-Ok.ensures) _ _ c.fault_of_turn-fault.ensures
    c.tells_want.ensures c.if-tells_want.false c.in-Ok-hand_over.ensures c.in-Some.why c.in-Some.is

-- it is not
pub returns-clause-answers : goal.returns-clause-answers
returns-clause-answers g c =
    asked_well _ _ _ _ c.args.ask c.turn_of-turn.result c.fault_of_turn-fault.result _ _ _ _ c.turn_of-turn.ensures.takes (c.as_slice.ensures.value ∙ c.in-Ok.ensures) _ _ c.fault_of_turn-fault.ensures
    c.tells_want.ensures c.if-tells_want.false c.in-Ok-hand_over.ensures c.in-None.is
