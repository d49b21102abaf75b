use Rattle.sim_walk.proofs.desk.Desk.go_to.Goals as goal

pub returns-clause-turn : goal.returns-clause-turn
returns-clause-turn g c =
    let t = c.in_ok-answer.ensures.turn in
    record { turn = t.turn; takes = t.takes; told = t.told }
