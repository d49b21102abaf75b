use Rattle.std.proofs.Common.{ap, ◌∙◌}
use Rattle.sim_queue.specs.inside.Wheel.{key_at}
use Rattle.sim_queue.proofs.Turning.{same_wheel, place_free, same_keys}
use Rattle.sim_queue.proofs.wheel.Wheel.free_place.Goals as goal

pub invariant_of-self : goal.invariant_of-self
invariant_of-self c =
    let l = c.self.inside.lists in
    let new = c.free_place.new.self in
    rw c.free_place.ensures.keeps.width
    (same_wheel l.width c.self.inside.floor c.self.inside.marks.words l.nodes.items new.nodes.items c.free_place.ensures.keeps.same (rw c.free_place.ensures.keeps.width at c.free_place.ensures.keeps.lists)
    (c.free_place.ensures.keeps.size c.self.invariant.small) c.self.invariant)

pub invariant_of-self-2 : goal.invariant_of-self-2
invariant_of-self-2 c =
    let l = c.self.inside.lists in
    let new = c.free_place.new.self in
    rw c.free_place.ensures.keeps.width
    (same_wheel l.width c.self.inside.floor c.self.inside.marks.words l.nodes.items new.nodes.items c.free_place.ensures.keeps.same (rw c.free_place.ensures.keeps.width at c.free_place.ensures.keeps.lists)
    (c.free_place.ensures.keeps.size c.self.invariant.small) c.self.invariant)

pub returns-in_err-free_place-clause-same : goal.returns-in_err-free_place-clause-same
returns-in_err-free_place-clause-same c k =
    same_keys c.self.inside.lists.nodes.items c.free_place.new.self.nodes.items c.free_place.ensures.keeps.same k ∙ ap (λ xs. key_at xs k) c.self.view_is

pub returns-clause-place : goal.returns-clause-place
returns-clause-place c = place_free c.free_place.new.self.nodes.items c.in_ok-free_place.field-0 c.in_ok-free_place.ensures.free

pub returns-clause-same : goal.returns-clause-same
returns-clause-same c k = same_keys c.self.inside.lists.nodes.items c.free_place.new.self.nodes.items c.free_place.ensures.keeps.same k ∙ ap (λ xs. key_at xs k) c.self.view_is
