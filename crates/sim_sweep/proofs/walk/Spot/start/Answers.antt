use Rattle.std.proofs.Common.{ap, ◌∙◌}
use Rattle.sim_watch.specs.Condition.{fault_of}
use Rattle.sim_sweep.proofs.walk.Spot.start.Goals as goal

pub holds-fails-requires : goal.holds-fails-requires
holds-fails-requires g c = ap (λ w. fault_of w.scenario.setup.hosts g.N.Node.PROBES c.args.cond.now) c.in_ok-world.ensures.value ∙ c.requires.checked
