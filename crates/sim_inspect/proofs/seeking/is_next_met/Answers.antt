use Rattle.std.proofs.Common.{arith}
use Rattle.sim_tape.specs.Tape.{IsMoved}
use Rattle.sim_inspect.proofs.Spans.{moved_on, stayed, met_here}
use Rattle.sim_inspect.proofs.seeking.is_next_met.Goals as goal
use Rattle.sim_inspect.proofs.seeking.is_next_met.Goals.{then-place+in_ok-pass, else-place}

pub returns-clause-met : goal.returns-clause-met
returns-clause-met g c =
    let t = c.args.tape.now in
    let u = c.if-place.tape in
    let p = c.args.place in
    let moved : IsMoved p t u = elim c.if-place.branch [
      | then-place+in_ok-pass w ↦ moved_on p t u w.pass.new.self w.tape-is w.in_ok-pass.ensures.ok (omega (arith, c.requires.before, c.place.ensures.value, w.if-place.true))
      | else-place w ↦ stayed p t u w.tape-is c.requires.warm (omega (arith, c.requires.before, c.place.ensures.value, w.if-place.false))
    ] in
    met_here g.N.Node.laws g.N.Node.PROBES c.args.sought.now p t u c.here.result.now.scenario c.here.result.now.world c.next_event.result c.is_met.result moved c.here.ensures.run c.here.ensures.scenario
    c.next_event.ensures c.is_met.ensures
