use Rattle.sim_cli.specs.Subjects.{nodes_by}
use Rattle.sim_play.proofs.Plainly.{ended_plain}
use Rattle.sim_play.proofs.playing.play.Goals as goal

pub returns-clause-plain : goal.returns-clause-plain
returns-clause-plain g c given e d =
    ended_plain g.L.Protocols.listed (nodes_by g.L.Subjects.nodes) given _ _ _ c.play_scenario.result d (c.play_scenario.ensures.played given e)
