use Rattle.sim_walk.proofs.Growing.{grows_on}
use Rattle.sim_walk.proofs.walking.Walker.answer.Goals as goal

pub returns-in-Ok : goal.returns-in-Ok
returns-in-Ok g c =
    let held = g.W.Write.contents in
    grows_on (held c.args.writer.now) (held c.echo.new.writer) (held c.carry_out.new.writer) c.echo.ensures c.carry_out.ensures.grows

pub returns-in-Err : goal.returns-in-Err
returns-in-Err g c =
    let held = g.W.Write.contents in
    grows_on (held c.args.writer.now) (held c.echo.new.writer) (held c.say.new.writer) c.echo.ensures c.say.ensures.grows
