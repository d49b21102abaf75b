use Rattle.std.proofs.Common.{◌≡◌, ◌+◌, ◌-◌, length}
use Rattle.sim_world.specs.Events.{rules}
use Rattle.sim_history.specs.Log.{events_of}
use Rattle.sim_moves.specs.Places.{acting, IsAt, AreRecords}
use Rattle.sim_moves.specs.Works.{undone_by}
use Rattle.sim_moves.proofs.walk.unwind.Given as goal

abbrev pub invariant-loop : goal.invariant-loop
invariant-loop g l = record {
  here : IsAt (rules g.N.Node.laws g.N.Node.PROBES l.log.scenario) (events_of l.log.entries) (l.fn.back.end - l.counter) l.world;
  records : AreRecords g.N.Node.told g.N.Node.records (rules g.N.Node.laws g.N.Node.PROBES l.log.scenario) (events_of l.log.entries) (l.fn.back.end - l.counter) l.ring.items;
  reach : length l.ring.items + l.counter ≡ length l.initial.ring.items;
  capacity : l.ring.capacity ≡ l.initial.ring.capacity;
  work : g.N.Meter.Meter.work l.meter ≡ undone_by (acting (rules g.N.Node.laws g.N.Node.PROBES l.log.scenario) (l.fn.back.end - l.counter) l.counter (events_of l.log.entries)) (g.N.Meter.Meter.work l.initial.meter);
}
