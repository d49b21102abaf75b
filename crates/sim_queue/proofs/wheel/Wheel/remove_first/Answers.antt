use Rattle.std.proofs.Common.{◌≡◌, ℕ, ◌+◌, ◌%◌, ◌==◌, Some, ap, sym, ◌∙◌, subst, arith}
use Rattle.std.proofs.lemmas.Bool.{eqb-true}
use Rattle.sim_queue.specs.declared.lists.Node.{Node}
use Rattle.sim_queue.specs.declared.marks.Marks.{Marks}
use Rattle.sim_queue.specs.inside.Lists.{node, day, list_of, IsEmptyList}
use Rattle.sim_queue.specs.inside.Wheel.{keys_of, key_at, IsFirst, IsFrom}
use Rattle.sim_queue.proofs.Nodes.{key_within}
use Rattle.sim_queue.proofs.Turning.{key_there, key_none, key_of_node, first_at_floor, left_marked, left_from, left_wheel, kept_keys, on_false}
use Rattle.sim_queue.proofs.wheel.Wheel.remove_first.Goals as goal

pub next_floor-self-inside-requires-clause-marked : goal.next_floor-self-inside-requires-clause-marked
next_floor-self-inside-requires-clause-marked c =
    let l = c.self.inside.lists in
    let f = c.self.inside.floor in
    let new = c.leave-node.new.self in
    let x = c.leave-node.result in
    let p = c.args.place + 256 in
    let first : IsFirst c.args.place (keys_of l.nodes.items) = rw c.self.view_is c.requires in
    let first_is = first_at_floor l.width f c.self.inside.marks.words l.nodes.items c.self.invariant c.args.place first in
    let lists = rw c.leave-node.ensures.width at c.leave-node.ensures.lists in
    let low : c.day-today.result % 256 ≡ day l.width (node l.nodes.items p).due % 256 = ap (λ (n : ℕ). n % 256) (c.day-today.ensures ∙ ap (λ (d : ℕ). day l.width d) (sym first_is.due)) in
    let marked = left_marked l.width f 0 p c.self.inside.marks.words c.clear_if.new.self.words l.nodes.items new.nodes.items first_is.key c.self.invariant lists c.leave-node.ensures.size
    c.leave-node.ensures.gone c.leave-node.ensures.others (x.before == x.after)
    (λ told. subst (λ (y : Node). IsEmptyList l.width (list_of l.width y) new.nodes.items) c.leave-node.ensures.node
    (rw c.leave-node.ensures.width at (c.leave-node.ensures.last (eqb-true x.before x.after told))))
    (λ d q. c.clear_if.ensures.others d (λ e. q (e ∙ low)))
    (on_false (x.before == x.after) (c.clear_if.new.self ≡ c.self.inside.marks) (c.clear_if.new.self.words ≡ c.self.inside.marks.words) (λ e. ap (λ (m : Marks). m.words) e) c.clear_if.ensures.same) in
    rw c.leave-node.ensures.width marked

pub next_floor-self-inside-requires-clause-from : goal.next_floor-self-inside-requires-clause-from
next_floor-self-inside-requires-clause-from c =
    let l = c.self.inside.lists in
    let f = c.self.inside.floor in
    let new = c.leave-node.new.self in
    let x = c.leave-node.result in
    let p = c.args.place + 256 in
    let first : IsFirst c.args.place (keys_of l.nodes.items) = rw c.self.view_is c.requires in
    let first_is = first_at_floor l.width f c.self.inside.marks.words l.nodes.items c.self.invariant c.args.place first in
    let lists = rw c.leave-node.ensures.width at c.leave-node.ensures.lists in
    let due : x.due ≡ f = ap (λ (y : Node). y.due) c.leave-node.ensures.node ∙ first_is.due in
    let from = left_from l.width f 0 p c.self.inside.marks.words c.clear_if.new.self.words l.nodes.items new.nodes.items first_is.key c.self.invariant lists c.leave-node.ensures.size
    c.leave-node.ensures.gone c.leave-node.ensures.others in
    subst (λ (d : ℕ). IsFrom d new.nodes.items) (sym due) from

pub next_floor-self-inside-requires-clause-today : goal.next_floor-self-inside-requires-clause-today
next_floor-self-inside-requires-clause-today c =
    let l = c.self.inside.lists in
    let f = c.self.inside.floor in
    let x = c.leave-node.result in
    let first : IsFirst c.args.place (keys_of l.nodes.items) = rw c.self.view_is c.requires in
    let first_is = first_at_floor l.width f c.self.inside.marks.words l.nodes.items c.self.invariant c.args.place first in
    let due : x.due ≡ f = ap (λ (y : Node). y.due) c.leave-node.ensures.node ∙ first_is.due in
    rw c.leave-node.ensures.width (c.day-today.ensures ∙ ap (λ (d : ℕ). day l.width d) (sym due))

pub invariant_of-self : goal.invariant_of-self
invariant_of-self c =
    let l = c.self.inside.lists in
    let f = c.self.inside.floor in
    let new = c.leave-node.new.self in
    let x = c.leave-node.result in
    let p = c.args.place + 256 in
    let first : IsFirst c.args.place (keys_of l.nodes.items) = rw c.self.view_is c.requires in
    let first_is = first_at_floor l.width f c.self.inside.marks.words l.nodes.items c.self.invariant c.args.place first in
    let lists = rw c.leave-node.ensures.width at c.leave-node.ensures.lists in
    let low : c.day-today.result % 256 ≡ day l.width (node l.nodes.items p).due % 256 = ap (λ (n : ℕ). n % 256) (c.day-today.ensures ∙ ap (λ (d : ℕ). day l.width d) (sym first_is.due)) in
    let marked = left_marked l.width f 0 p c.self.inside.marks.words c.clear_if.new.self.words l.nodes.items new.nodes.items first_is.key c.self.invariant lists c.leave-node.ensures.size
    c.leave-node.ensures.gone c.leave-node.ensures.others (x.before == x.after)
    (λ told. subst (λ (y : Node). IsEmptyList l.width (list_of l.width y) new.nodes.items) c.leave-node.ensures.node
    (rw c.leave-node.ensures.width at (c.leave-node.ensures.last (eqb-true x.before x.after told))))
    (λ d q. c.clear_if.ensures.others d (λ e. q (e ∙ low)))
    (on_false (x.before == x.after) (c.clear_if.new.self ≡ c.self.inside.marks) (c.clear_if.new.self.words ≡ c.self.inside.marks.words) (λ e. ap (λ (m : Marks). m.words) e) c.clear_if.ensures.same) in
    rw c.leave-node.ensures.width
    (left_wheel l.width f c.next_floor-self-inside.result p c.self.inside.marks.words c.clear_if.new.self.words l.nodes.items new.nodes.items first_is.key c.self.invariant lists
    c.leave-node.ensures.size c.leave-node.ensures.gone c.leave-node.ensures.others marked c.next_floor-self-inside.ensures)

pub returns-clause-others : goal.returns-clause-others
returns-clause-others c k apart =
    kept_keys c.self.inside.lists.nodes.items c.leave-node.new.self.nodes.items c.args.place c.leave-node.ensures.others k apart ∙ ap (λ xs. key_at xs k) c.self.view_is

pub overflow_add-place : goal.overflow_add-place
overflow_add-place c =
    let nodes = c.self.inside.lists.nodes.items in
    let l = c.self.inside.lists in
    let first : IsFirst c.args.place (keys_of nodes) = rw c.self.view_is c.requires in
    let key = (first_at_floor l.width c.self.inside.floor c.self.inside.marks.words nodes c.self.invariant c.args.place first).key in
    let within = key_within nodes (c.args.place + 256) key in
    let small = c.self.invariant.small in
    omega arith

pub leave-node-requires-clause-key : goal.leave-node-requires-clause-key
leave-node-requires-clause-key c =
    let nodes = c.self.inside.lists.nodes.items in
    let l = c.self.inside.lists in
    let first : IsFirst c.args.place (keys_of nodes) = rw c.self.view_is c.requires in
    let key = (first_at_floor l.width c.self.inside.floor c.self.inside.marks.words nodes c.self.invariant c.args.place first).key in
    key

pub returns-clause-key : goal.returns-clause-key
returns-clause-key c =
    let nodes = c.self.inside.lists.nodes.items in
    let l = c.self.inside.lists in
    let first : IsFirst c.args.place (keys_of nodes) = rw c.self.view_is c.requires in
    let key = (first_at_floor l.width c.self.inside.floor c.self.inside.marks.words nodes c.self.invariant c.args.place first).key in
    rw (← c.self.view_is) (key_of_node nodes c.args.place key ∙ ap (λ (x : Node). Some (x.due, x.serial)) (sym c.leave-node.ensures.node))

pub returns-clause-gone : goal.returns-clause-gone
returns-clause-gone c =
    let new = c.leave-node.new.self.nodes.items in
    key_there new c.args.place ∙ key_none (node new (c.args.place + 256)) c.leave-node.ensures.gone

pub next_floor-self-inside-requires-clause-made : goal.next_floor-self-inside-requires-clause-made
next_floor-self-inside-requires-clause-made c =
    let nodes = c.self.inside.lists.nodes.items in
    let l = c.self.inside.lists in
    let first : IsFirst c.args.place (keys_of nodes) = rw c.self.view_is c.requires in
    let key = (first_at_floor l.width c.self.inside.floor c.self.inside.marks.words nodes c.self.invariant c.args.place first).key in
    let within = key_within nodes (c.args.place + 256) key in
    let size = c.leave-node.ensures.size in
    omega arith
