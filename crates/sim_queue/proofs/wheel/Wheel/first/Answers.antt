use Rattle.std.proofs.Common.{ℕ, ◌%◌, ap}
use Rattle.sim_queue.proofs.Turning.{none_first, is_first}
use Rattle.sim_queue.proofs.wheel.Wheel.first.Goals as goal

pub returns-in_err-head-clause-none : goal.returns-in_err-head-clause-none
returns-in_err-head-clause-none c =
    let l = c.self.inside.lists in
    let none = none_first l.width c.self.inside.floor c.self.inside.marks.words l.nodes.items c.self.invariant (c.day.result % 256) (ap (λ (d : ℕ). d % 256) c.day.ensures) c.in_err-head.ensures.none in
    rw c.from_residual.ensures (rw (← c.self.view_is) none)

pub returns-clause-first : goal.returns-clause-first
returns-clause-first c =
    let l = c.self.inside.lists in
    let h = c.in_ok-head.ensures.first in
    rw (← c.self.view_is)
    (is_first l.width c.self.inside.floor c.self.inside.marks.words l.nodes.items c.self.invariant (c.day.result % 256) c.in_ok-head.field-0 (ap (λ (d : ℕ). d % 256) c.day.ensures) h.0 h.1 h.2)
