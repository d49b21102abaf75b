use Rattle.sim_queue.proofs.Finding.{have_bodies, is_next}
use Rattle.sim_queue.proofs.slots.Slots.next_that.Goals as goal

pub least_taken-requires-clause-bodies : goal.least_taken-requires-clause-bodies
least_taken-requires-clause-bodies g c =
    let i = c.self.inside in
    have_bodies i.wheel i.bodies.items i.places.items i.base i.count c.self.invariant

pub returns : goal.returns
returns g c p tests =
    let i = c.self.inside in
    rw (← c.self.view_is)
    (is_next i.wheel i.bodies.items i.places.items i.base i.count c.self.invariant p c.args.from c.least_taken.result (c.least_taken.ensures p tests))
