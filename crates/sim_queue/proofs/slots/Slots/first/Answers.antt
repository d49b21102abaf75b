use Rattle.std.proofs.Common.{◌-◌, ap, subst}
use Rattle.sim_queue.specs.inside.Slots.{HasNoItem, IsFirstSlot}
use Rattle.sim_queue.specs.inside.Sparse.{SlotList}
use Rattle.sim_queue.proofs.Sparse.{first_slot, no_slot}
use Rattle.sim_queue.proofs.slots.Slots.first.Goals as goal

pub returns-in_err-at-clause-none : goal.returns-in_err-at-clause-none
returns-in_err-at-clause-none g c =
    let keys = c.self.inside.wheel in
    let bodies = c.self.inside.bodies.items in
    let places = c.self.inside.places.items in
    rw c.from_residual.ensures
    (subst (λ xs. HasNoItem xs) (ap (λ (s : SlotList _). s.items) c.self.view_is) (no_slot keys bodies places c.self.inside.base c.self.inside.count c.self.invariant c.in_err-at.ensures.none))

pub returns-clause-first : goal.returns-clause-first
returns-clause-first g c =
    let keys = c.self.inside.wheel in
    let bodies = c.self.inside.bodies.items in
    let places = c.self.inside.places.items in
    subst (λ xs. IsFirstSlot (c.key-due.result.1 - c.self.inside.base) xs) (ap (λ (s : SlotList _). s.items) c.self.view_is)
    (first_slot keys bodies places c.self.inside.base c.self.inside.count c.in_ok-at.at c.key-due.result.0 c.key-due.result.1 c.self.invariant c.in_ok-at.ensures.first c.key-due.ensures)
