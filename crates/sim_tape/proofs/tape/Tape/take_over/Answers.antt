use Rattle.std.proofs.Common.{length, ap, ◌∙◌, arith}
use Rattle.sim_world.specs.Events.{rules}
use Rattle.sim_history.specs.Log.{events_of}
use Rattle.sim_moves.proofs.Walking.{bare_walk}
use Rattle.sim_tape.proofs.tape.Tape.take_over.Goals as goal

pub invariant_of-self : goal.invariant_of-self
invariant_of-self g c =
    let i = c.self.inside in
    let ring = c.take_over.ensures.ring in (
      c.self.invariant.0,
      c.self.invariant.1,
      bare_walk g.N.Node.told g.N.Node.records (rules g.N.Node.laws g.N.Node.PROBES i.log.scenario) (events_of i.log.entries) i.place _ _ _ _
          c.take_over.ensures.world (ap (λ r. r.items) ring) c.self.invariant.2,
      ap (λ r. r.capacity) ring ∙ c.self.invariant.3,
      omega (arith, ap (λ r. length r.items) ring),
    )
