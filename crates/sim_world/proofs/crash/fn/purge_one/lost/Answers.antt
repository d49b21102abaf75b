use Rattle.sim_world.proofs.crash.fn.purge_one.lost.Goals as goal

pub returns : goal.returns
returns g c = c.is_lost.ensures 0 0
