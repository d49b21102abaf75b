use Rattle.std.proofs.Common.{◌-◌}
use Rattle.sim_world.specs.Events.{rules}
use Rattle.sim_inspect.specs.Seeking.{is_met_at}
use Rattle.sim_inspect.proofs.Spans.{span_none, opened_at, walked_on, met_in_run}
use Rattle.sim_inspect.proofs.seeking.span_of.Goals as goal

pub loop-place-init : goal.loop-place-init
loop-place-init g c =
    let run = c.args.run.now in (
      opened_at run.scenario run.events 0 0 c.in_ok-tape.tape c.in_ok-tape.ensures.tape,
      span_none (is_met_at (rules g.N.Node.laws g.N.Node.PROBES run.scenario) c.args.sought.now run.events),
    )

pub loop-place-preserved : goal.loop-place-preserved
loop-place-preserved g c =
    let run = c.args.run.now in
    let p = c.loop-place.place in
    let t = c.loop-place.tape in
    let inv = c.loop-place.invariant in (
      walked_on run.scenario run.events p t c.is_next_met.new.tape inv.0 c.in_ok-is_met.ensures.tape,
      c.add.ensures (is_met_at (rules g.N.Node.laws g.N.Node.PROBES run.scenario) c.args.sought.now run.events) inv.1
          (met_in_run g.N.Node.laws g.N.Node.PROBES c.args.sought.now run.scenario run.events p (p - 1) t c.in_ok-is_met.is_met inv.0 c.in_ok-is_met.ensures.met),
    )
