use Rattle.std.proofs.Common.{◌≡◌, ℕ, subst, arith}
use Rattle.sim_world.specs.Events.{rules}
use Rattle.sim_history.specs.Log.{events_of}
use Rattle.sim_moves.specs.Places.{IsAt, AreRecords}
use Rattle.sim_moves.proofs.walk.play_stretches.Goals as goal

pub returns-clause-here : goal.returns-clause-here
returns-clause-here g c =
    let r = rules g.N.Node.laws g.N.Node.PROBES c.args.log.now.scenario in
    let within = c.loop-place.invariant.within in
    let at : c.loop-place.place ≡ c.args.way.end = omega (arith, within, c.loop-place-test.false) in
    subst (λ (p : ℕ). IsAt r (events_of c.args.log.now.entries) p c.loop-place.world) at c.loop-place.invariant.here

pub returns-clause-records : goal.returns-clause-records
returns-clause-records g c =
    let r = rules g.N.Node.laws g.N.Node.PROBES c.args.log.now.scenario in
    let within = c.loop-place.invariant.within in
    let at : c.loop-place.place ≡ c.args.way.end = omega (arith, within, c.loop-place-test.false) in
    subst (λ (p : ℕ). AreRecords g.N.Node.told g.N.Node.records r (events_of c.args.log.now.entries) p c.loop-place.ring.items) at c.loop-place.invariant.records
