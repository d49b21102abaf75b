use Rattle.std.proofs.Common.{◌≡◌, ◌+◌, length, min}
use Rattle.sim_world.specs.Events.{rules}
use Rattle.sim_history.specs.Log.{events_of}
use Rattle.sim_moves.specs.Places.{IsAt, AreRecords}
use Rattle.sim_moves.specs.Works.{OnlyTurns}
use Rattle.sim_moves.proofs.walk.play_stretch.Given as goal

abbrev pub invariant-loop-entry : goal.invariant-loop-entry
invariant-loop-entry g l = record {
  here : IsAt (rules g.N.Node.laws g.N.Node.PROBES l.log.scenario) (events_of l.log.entries) (l.fn.way.start + l.entry-index) l.world;
  records : AreRecords g.N.Node.told g.N.Node.records (rules g.N.Node.laws g.N.Node.PROBES l.log.scenario) (events_of l.log.entries) (l.fn.way.start + l.entry-index) l.ring.items;
  reach : length l.ring.items ≡ min l.initial.ring.capacity (length l.initial.ring.items + l.entry-index);
  capacity : l.ring.capacity ≡ l.initial.ring.capacity;
  work : OnlyTurns l.entry-index (g.N.Meter.Meter.work l.initial.meter) (g.N.Meter.Meter.work l.meter);
}
