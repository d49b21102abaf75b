use Rattle.std.proofs.Common.{arith}
use Rattle.sim_history.proofs.Entries.{events-length}
use Rattle.sim_moves.proofs.walk.Walk.on.Goals as goal

pub returns-in-Ok-clause-ok : goal.returns-in-Ok-clause-ok
returns-in-Ok-clause-ok g c =
    let within = c.requires.within in
    record { within = omega (arith, within, events-length c.args.log.now.entries); here = c.in-Ok.ensures.here; answers = c.in-Ok.ensures.records }
