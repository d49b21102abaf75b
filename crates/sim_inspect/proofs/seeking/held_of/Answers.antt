use Rattle.std.proofs.Common.{◌+◌, inl, inr}
use Rattle.sim_world.specs.Events.{rules}
use Rattle.sim_inspect.specs.Seeking.{is_met_at}
use Rattle.sim_inspect.proofs.Spans.{last_there, last_absent, met_last}
use Rattle.sim_inspect.proofs.seeking.held_of.Goals as goal
use Rattle.sim_inspect.proofs.seeking.held_of.Goals.{in-Some-2, in-None}

pub returns : goal.returns
returns g c =
    let run = c.args.run.now in
    let here = c.args.here in
    let test = is_met_at (rules g.N.Node.laws g.N.Node.PROBES run.scenario) c.args.sought.now run.events in
    let o = c.in_ok-place.field-0.last in
    let on = c.in_ok-place.ensures.last in
    elim c.match-branch-2.branch [
      | in-Some-2 w ↦ inr (met_last test here w.in-Some.place (last_there test (here + 1) w.in-Some.place o on w.in-Some.is) w.if-place-here.false)
      | in-None w ↦ inl (last_absent test (here + 1) o on w.in-None.is)
    ]
