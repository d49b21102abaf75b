use Rattle.std.proofs.Common.{◌≡◌, ◌-◌, true}
use Rattle.sim_world.specs.Events.{rules}
use Rattle.sim_inspect.specs.Seeking.{is_met_at, IsSpan}
use Rattle.sim_inspect.proofs.seeking.span_of.Given as goal

abbrev pub invariant-loop-place : goal.invariant-loop-place
invariant-loop-place g l =
    let r = rules g.N.Node.laws g.N.Node.PROBES l.run.scenario in (
    l.tape ≡ record {
      scenario = l.run.scenario;
      events = l.run.events;
      place = l.place - 1;
      warm = true;
      reach = l.tape.reach;
    }
    ) × IsSpan (is_met_at r l.sought l.run.events) l.place l.span
