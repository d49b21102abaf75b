use Rattle.std.proofs.Common.{◌≡◌, length, map}
use Rattle.sim_world.specs.declared.small.Small.{Small}
use Rattle.sim_world.specs.Records.{Fits, back}
use Rattle.sim_world.specs.inside.Trail.{unboxed}
use Rattle.sim_world.specs.Undone.{taken_back}
use Rattle.sim_world.proofs.parts.Parts.take_back_others.Given as goal

abbrev pub invariant-loop-change : goal.invariant-loop-change
invariant-loop-change g l = record {
  fits : Fits g.N.Node.records (map unboxed l.others) l.self.world;
  places : length l.self.world.places ≡ 34;
  seed : l.self.seed ≡ l.fn.self.seed;
  back : back g.N.Node.records (map unboxed l.others) l.self.world ≡ back g.N.Node.records (map unboxed l.fn.others) l.fn.self.world;
  work : taken_back (map {B = Small g.row.N.Denot g.row.N-Msg.Denot g.row.N-Undo.Denot} unboxed l.others) (g.N.Meter.Meter.work l.meter)
      ≡ taken_back (map {B = Small g.row.N.Denot g.row.N-Msg.Denot g.row.N-Undo.Denot} unboxed l.fn.others) (g.N.Meter.Meter.work l.fn.meter);
}

abbrev pub decreases-loop-change : goal.decreases-loop-change
decreases-loop-change g l = length l.others
