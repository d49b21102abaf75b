use Rattle.std.proofs.Common.{◌≡◌, ℕ, ◌+◌, ◌%◌, ◌^◌, ◌<◌, List, Some, min, sym, ap, ◌∙◌, arith, inl, refl}
use Rattle.sim_queue.specs.declared.lists.Node.{Node}
use Rattle.sim_queue.specs.inside.Lists.{node, day}
use Rattle.sim_queue.specs.inside.Wheel.{keys_of, key_at, IsPlace}
use Rattle.sim_queue.proofs.Turning.{key_of_node, fresh_node, free_place, put_wheel, behind_key, kept_keys, lesser_of}
use Rattle.sim_queue.proofs.wheel.Wheel.put.Goals as goal

pub spot-before-requires-clause-fresh : goal.spot-before-requires-clause-fresh
spot-before-requires-clause-fresh c =
    let l = c.self.inside.lists in
    fresh_node l.width l.nodes.items c.args.serial c.self.invariant.lists (rw c.self.view_is c.requires.fresh)

pub invariant_of-self : goal.invariant_of-self
invariant_of-self c =
    let l = c.self.inside.lists in
    let new = c.join.new.self in
    let place : IsPlace c.args.place (keys_of l.nodes.items) = rw c.self.view_is c.requires.place in
    let is : c.day.result ≡ day l.width c.args.due = c.day.ensures ∙ ap (λ (n : ℕ). day n c.args.due) c.join.ensures.width in
    let low : c.day.result % 256 ≡ day l.width c.args.due % 256 = ap (λ (n : ℕ). n % 256) is in
    let least : c.min-self-inside.result ≡ min c.self.inside.floor c.args.due = c.min-self-inside.ensures in
    rw c.join.ensures.width
    (put_wheel l.width c.self.inside.floor c.min-self-inside.result (c.args.place + 256) c.args.due c.args.serial c.self.inside.marks.words c.set.new.self.words l.nodes.items new.nodes.items
    (free_place l.nodes.items c.args.place place) c.self.invariant (rw c.join.ensures.width at c.join.ensures.lists) c.join.ensures.size c.join.ensures.due c.join.ensures.serial c.requires.small
    (omega arith) c.join.ensures.others
    (λ d q. c.set.ensures.set d (q ∙ sym low)) (λ d q. c.set.ensures.others d (λ e. q (e ∙ low)))
    (omega arith) (omega arith) (lesser_of c.self.inside.floor c.args.due c.min-self-inside.result least))

pub invariant_of-self-else-before-lt-LISTS : goal.invariant_of-self-else-before-lt-LISTS
invariant_of-self-else-before-lt-LISTS c =
    let l = c.self.inside.lists in
    let new = c.join.new.self in
    let place : IsPlace c.args.place (keys_of l.nodes.items) = rw c.self.view_is c.requires.place in
    let behind = behind_key l.width c.self.inside.floor c.self.inside.marks.words l.nodes.items c.self.invariant c.args.due c.args.serial c.spot-before.result c.spot-before.ensures
    c.if-before-lt-LISTS.false c.requires.small in
    rw c.join.ensures.width
    (put_wheel l.width c.self.inside.floor c.self.inside.floor (c.args.place + 256) c.args.due c.args.serial c.self.inside.marks.words c.self.inside.marks.words l.nodes.items new.nodes.items
    (free_place l.nodes.items c.args.place place) c.self.invariant (rw c.join.ensures.width at c.join.ensures.lists) c.join.ensures.size c.join.ensures.due c.join.ensures.serial c.requires.small
    (omega arith) c.join.ensures.others behind.marked (λ d apart. refl) (omega arith) behind.late (inl refl))

pub returns-then-before-lt-LISTS-clause-others : goal.returns-then-before-lt-LISTS-clause-others
returns-then-before-lt-LISTS-clause-others c k apart =
    kept_keys c.self.inside.lists.nodes.items c.join.new.self.nodes.items c.args.place c.join.ensures.others k apart ∙ ap (λ xs. key_at xs k) c.self.view_is

pub returns-else-before-lt-LISTS-clause-others : goal.returns-else-before-lt-LISTS-clause-others
returns-else-before-lt-LISTS-clause-others c k apart =
    kept_keys c.self.inside.lists.nodes.items c.join.new.self.nodes.items c.args.place c.join.ensures.others k apart ∙ ap (λ xs. key_at xs k) c.self.view_is

pub overflow_add-place : goal.overflow_add-place
overflow_add-place c =
    let nodes = c.self.inside.lists.nodes.items in
    let place : IsPlace c.args.place (keys_of nodes) = rw c.self.view_is c.requires.place in
    let free = free_place nodes c.args.place place in
    let within = free.within in
    let small = c.self.invariant.small in
    omega arith

pub spot-before-requires-clause-made : goal.spot-before-requires-clause-made
spot-before-requires-clause-made c =
    let nodes = c.self.inside.lists.nodes.items in
    let place : IsPlace c.args.place (keys_of nodes) = rw c.self.view_is c.requires.place in
    let free = free_place nodes c.args.place place in
    let within = free.within in
    omega arith

pub join-requires-clause-free : goal.join-requires-clause-free
join-requires-clause-free c =
    let nodes = c.self.inside.lists.nodes.items in
    let place : IsPlace c.args.place (keys_of nodes) = rw c.self.view_is c.requires.place in
    let free = free_place nodes c.args.place place in
    free

-- the key that a node was given
given : (nodes : List Node) (p due serial : ℕ) → (node nodes (p + 256)).due ≡ due → (node nodes (p + 256)).serial ≡ serial → serial < 2 ^ 40 → key_at (keys_of nodes) p ≡ Some (due, serial)
given nodes p due serial is_due is_serial small =
    key_of_node nodes p (omega arith) ∙ ap (λ (d : ℕ). Some (d, (node nodes (p + 256)).serial)) is_due ∙ ap (λ (s : ℕ). Some (due, s)) is_serial

pub returns-then-before-lt-LISTS-clause-there : goal.returns-then-before-lt-LISTS-clause-there
returns-then-before-lt-LISTS-clause-there c =
    given c.join.new.self.nodes.items c.args.place c.args.due c.args.serial c.join.ensures.due c.join.ensures.serial c.requires.small

pub returns-else-before-lt-LISTS-clause-there : goal.returns-else-before-lt-LISTS-clause-there
returns-else-before-lt-LISTS-clause-there c =
    given c.join.new.self.nodes.items c.args.place c.args.due c.args.serial c.join.ensures.due c.join.ensures.serial c.requires.small
