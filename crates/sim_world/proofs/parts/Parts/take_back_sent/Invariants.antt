use Rattle.std.proofs.Common.{◌≡◌, length}
use Rattle.sim_world.specs.Records.{Fits, back}
use Rattle.sim_world.specs.inside.Trail.{sent_changes}
use Rattle.sim_world.proofs.parts.Parts.take_back_sent.Given as goal

abbrev pub invariant-loop-left : goal.invariant-loop-left
invariant-loop-left g l = record {
  fits : Fits g.N.Node.records (sent_changes l.left) l.self.world;
  places : length l.self.world.places ≡ 34;
  seed : l.self.seed ≡ l.fn.self.seed;
  back : back g.N.Node.records (sent_changes l.left) l.self.world ≡ back g.N.Node.records (sent_changes l.fn.sent) l.fn.self.world;
}

abbrev pub decreases-loop-left : goal.decreases-loop-left
decreases-loop-left g l = l.left
