use Rattle.std.proofs.Common.{◌≡◌, ◌-◌, true}
use Rattle.sim_world.specs.Events.{rules}
use Rattle.sim_log.specs.Lines.{AreLines}
use Rattle.sim_log.proofs.lines.Teller.lines.Given as goal

-- the lines so far, and the tape before the next event
abbrev pub invariant-loop-place : goal.invariant-loop-place
invariant-loop-place g l = record {
  told : AreLines (rules g.N.Node.laws g.N.Node.PROBES l.run.scenario) l.run.events l.json l.first (l.place - l.first) l.log.items;
  tape : l.tape ≡ record { scenario = l.run.scenario; events = l.run.events; place = l.place - 1; warm = true; reach = l.tape.reach };
}
