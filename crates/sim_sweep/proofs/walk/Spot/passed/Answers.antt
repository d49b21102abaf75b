use Rattle.std.proofs.Common.{ap, ◌∙◌}
use Rattle.sim_events.specs.Scenario.{Scenario}
use Rattle.sim_watch.specs.Condition.{Cond, fault_of}
use Rattle.sim_sweep.proofs.walk.Spot.passed.Goals as goal

pub holds-fails-requires : goal.holds-fails-requires
holds-fails-requires g c =
    ap (λ (s : Scenario). fault_of s.setup.hosts g.N.Node.PROBES c.moved.new.self.cond.now) c.in_ok-world.ensures.scenario
    ∙ ap (λ (x : Cond). fault_of c.args.self.world.scenario.setup.hosts g.N.Node.PROBES x) c.moved.ensures.cond ∙ c.requires.checked
