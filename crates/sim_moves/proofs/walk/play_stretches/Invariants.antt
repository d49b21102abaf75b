use Rattle.std.proofs.Common.{◌≡◌, ◌+◌, ◌-◌, ◌≤◌, length, min}
use Rattle.sim_world.specs.Events.{rules}
use Rattle.sim_history.specs.Log.{events_of}
use Rattle.sim_moves.specs.Places.{IsAt, AreRecords}
use Rattle.sim_moves.specs.Works.{OnlyTurns}
use Rattle.sim_moves.proofs.walk.play_stretches.Given as goal

abbrev pub invariant-loop-place : goal.invariant-loop-place
invariant-loop-place g l = record {
  from : l.initial.place ≤ l.place;
  within : l.place ≤ l.way.end;
  here : IsAt (rules g.N.Node.laws g.N.Node.PROBES l.log.scenario) (events_of l.log.entries) l.place l.world;
  records : AreRecords g.N.Node.told g.N.Node.records (rules g.N.Node.laws g.N.Node.PROBES l.log.scenario) (events_of l.log.entries) l.place l.ring.items;
  reach : length l.ring.items ≡ min l.initial.ring.capacity (length l.initial.ring.items + (l.place - l.initial.place));
  capacity : l.ring.capacity ≡ l.initial.ring.capacity;
  work : OnlyTurns (l.place - l.initial.place) (g.N.Meter.Meter.work l.initial.meter) (g.N.Meter.Meter.work l.meter);
}

abbrev pub decreases-loop-place : goal.decreases-loop-place
decreases-loop-place g l = l.way.end - l.place
