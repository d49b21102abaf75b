use Rattle.std.proofs.Common.{Ok, Err, alloc_error, refl}
use Rattle.sim_walk.proofs.walking.Walker.carry_out.Goals as goal
use Rattle.sim_walk.proofs.walking.Walker.carry_out.Goals.{in-Branch, in-Branch+else-is_some, in-Nothing-2}

pub returns-in-Quit-clause-carries : goal.returns-in-Quit-clause-carries
returns-in-Quit-clause-carries g c =
    rw c.in-Quit.is (record { answer = Err alloc_error; walks = (refl, tt); written = λ e. absurd (cc) })

pub returns-in-Ok-clause-carries : goal.returns-in-Ok-clause-carries
returns-in-Ok-clause-carries g c =
    let written = c.write_answer.ensures.on in
    elim c.match-request.branch [
      | in-Branch w ↦ record { answer = Ok c.in-Ok.answer; walks = rw w.self-is at c.in-Ok.ensures.walks; written = written }
      | in-Branch+else-is_some w ↦ record { answer = Ok c.in-Ok.answer; walks = rw w.self-is at c.in-Ok.ensures.walks; written = written }
      | in-Nothing-2 w ↦ record { answer = Ok c.in-Ok.answer; walks = rw w.self-is at c.in-Ok.ensures.walks; written = written }
    ]

pub returns-in-Err-clause-carries : goal.returns-in-Err-clause-carries
returns-in-Err-clause-carries g c =
    let written = c.say.ensures.on in
    elim c.match-request.branch [
      | in-Branch w ↦ record { answer = Err alloc_error; walks = rw w.self-is at c.in-Err.ensures.walks; written = written }
      | in-Branch+else-is_some w ↦ record { answer = Err alloc_error; walks = rw w.self-is at c.in-Err.ensures.walks; written = written }
      | in-Nothing-2 w ↦ record { answer = Err alloc_error; walks = rw w.self-is at c.in-Err.ensures.walks; written = written }
    ]
