use Rattle.std.proofs.Common.{◌≡◌, ℕ, ◌+◌, ◌-◌, ◌%◌, ◌≤◌, List, length, min, sym, ap, ◌∙◌, subst, arith, inl, refl}
use Rattle.std.proofs.lemmas.List.{length-map}
use Rattle.sim_queue.specs.declared.lists.Node.{Node}
use Rattle.sim_queue.specs.inside.Lists.{node, day, KeepsOthers}
use Rattle.sim_queue.specs.inside.Wheel.{key_of, keys_of, key_at}
use Rattle.sim_queue.proofs.Nodes.{node_past}
use Rattle.sim_queue.proofs.Turning.{key_there, fresh_node, kept_wheel, behind_key, kept_keys, same_keys, lesser_of, on_err}
use Rattle.sim_queue.proofs.Adding.{add_wheel}
use Rattle.sim_queue.proofs.wheel.Wheel.add.Goals as goal
use Rattle.sim_queue.proofs.wheel.Wheel.add.Goals.{then-before-lt-LISTS, else-before-lt-LISTS}

pub invariant_of-self : goal.invariant_of-self
invariant_of-self c = kept_wheel c.self.inside.lists c.make_ends.new.self c.self.inside.floor c.self.inside.marks.words c.make_ends.ensures.keeps c.self.invariant

pub returns-in_err-make_ends-clause-err : goal.returns-in_err-make_ends-clause-err
returns-in_err-make_ends-clause-err c =
    on_err c.from_residual.result (λ k. same_keys c.self.inside.lists.nodes.items c.make_ends.new.self.nodes.items c.make_ends.ensures.keeps.same k ∙ ap (λ xs. key_at xs k) c.self.view_is)

pub spot-before-requires-clause-fresh : goal.spot-before-requires-clause-fresh
spot-before-requires-clause-fresh c =
    let old = c.self.inside.lists.nodes.items in
    let mid = c.make_ends.new.self in
    fresh_node mid.width mid.nodes.items c.args.serial c.make_ends.ensures.keeps.lists
    (λ k d q. c.requires.fresh k d (sym (ap (λ xs. key_at xs k) c.self.view_is) ∙ sym (same_keys old mid.nodes.items c.make_ends.ensures.keeps.same k) ∙ q))

pub invariant_of-self-in_err-place : goal.invariant_of-self-in_err-place
invariant_of-self-in_err-place c =
    rw c.add.ensures.width
    (rw c.in_err-place.ensures.err
    (kept_wheel c.self.inside.lists c.make_ends.new.self c.self.inside.floor c.self.inside.marks.words c.make_ends.ensures.keeps c.self.invariant))

pub returns-in_err-place-clause-err : goal.returns-in_err-place-clause-err
returns-in_err-place-clause-err c =
    let mid = c.make_ends.new.self.nodes.items in
    on_err c.from_residual-in_err-place.result
    (λ k. ap (λ (xs : List Node). key_at (keys_of xs) k) c.in_err-place.ensures.err ∙ same_keys c.self.inside.lists.nodes.items mid c.make_ends.ensures.keeps.same k ∙ ap (λ xs. key_at xs k) c.self.view_is)

pub invariant_of-self-then-before-lt-LISTS : goal.invariant_of-self-then-before-lt-LISTS
invariant_of-self-then-before-lt-LISTS c =
    let mid = c.make_ends.new.self in
    let new = c.add.new.self in
    let e = c.in_ok-place.ensures in
    let wheel = kept_wheel c.self.inside.lists mid c.self.inside.floor c.self.inside.marks.words c.make_ends.ensures.keeps c.self.invariant in
    let is : c.day.result ≡ day mid.width c.args.due = c.day.ensures ∙ ap (λ (n : ℕ). day n c.args.due) c.add.ensures.width in
    let low : c.day.result % 256 ≡ day mid.width c.args.due % 256 = ap (λ (n : ℕ). n % 256) is in
    let least : c.min-self-inside.result ≡ min c.self.inside.floor c.args.due = c.min-self-inside.ensures in
    rw c.add.ensures.width
    (add_wheel mid.width c.self.inside.floor c.min-self-inside.result c.in_ok-place.place c.args.due c.args.serial c.self.inside.marks.words c.set.new.self.words mid.nodes.items new.nodes.items wheel
    c.in_ok-make_ends.ensures.made e.place e.small (rw c.add.ensures.width at c.add.ensures.lists) e.size e.due e.serial c.requires.small (omega arith) e.others
    (λ d q. c.set.ensures.set d (q ∙ sym low)) (λ d q. c.set.ensures.others d (λ e. q (e ∙ low)))
    (omega arith) (omega arith) (lesser_of c.self.inside.floor c.args.due c.min-self-inside.result least))

pub invariant_of-self-else-before-lt-LISTS : goal.invariant_of-self-else-before-lt-LISTS
invariant_of-self-else-before-lt-LISTS c =
    let mid = c.make_ends.new.self in
    let new = c.add.new.self in
    let e = c.in_ok-place.ensures in
    let wheel = kept_wheel c.self.inside.lists mid c.self.inside.floor c.self.inside.marks.words c.make_ends.ensures.keeps c.self.invariant in
    let behind = behind_key mid.width c.self.inside.floor c.self.inside.marks.words mid.nodes.items wheel c.args.due c.args.serial c.spot-before.result c.spot-before.ensures
    c.if-before-lt-LISTS.false c.requires.small in
    rw c.add.ensures.width
    (add_wheel mid.width c.self.inside.floor c.self.inside.floor c.in_ok-place.place c.args.due c.args.serial c.self.inside.marks.words c.self.inside.marks.words mid.nodes.items new.nodes.items wheel
    c.in_ok-make_ends.ensures.made e.place e.small (rw c.add.ensures.width at c.add.ensures.lists) e.size e.due e.serial c.requires.small (omega arith) e.others
    behind.marked (λ d apart. refl) (omega arith) behind.late (inl refl))

pub returns-clause-place : goal.returns-clause-place
returns-clause-place c =
    let nodes = c.self.inside.lists.nodes.items in
    let last : c.in_ok-place.place ≡ length c.make_ends.new.self.nodes.items = c.in_ok-place.ensures.place in
    let places = c.in_ok-make_ends.ensures.places in
    let keys : length (keys_of nodes) ≡ length nodes = length-map nodes key_of in
    let view : length (keys_of nodes) ≡ length c.args.self.now = ap (λ xs. length xs) c.self.view_is in
    omega arith

pub returns-clause-next : goal.returns-clause-next
returns-clause-next c =
    let new = c.add.new.self.nodes.items in
    let last : c.in_ok-place.place ≡ length c.make_ends.new.self.nodes.items = c.in_ok-place.ensures.place in
    let made = c.in_ok-make_ends.ensures.made in
    let size = c.in_ok-place.ensures.size in
    let keys : length (keys_of new) ≡ length new = length-map new key_of in
    let here : c.if-before-lt-LISTS.self ≡ keys_of new = elim c.if-before-lt-LISTS.branch [ then-before-lt-LISTS w ↦ w.self-is | else-before-lt-LISTS w ↦ w.self-is ] in
    let view : length c.if-before-lt-LISTS.self ≡ length (keys_of new) = ap (λ xs. length xs) here in
    omega arith

pub returns-clause-was : goal.returns-clause-was
returns-clause-was c =
    let mid = c.make_ends.new.self.nodes.items in
    let p = c.in_ok-place.place in
    let last : p ≡ length mid = c.in_ok-place.ensures.place in
    let made : 256 ≤ length mid = c.in_ok-make_ends.ensures.made in
    let e : p - 256 + 256 ≡ p = omega arith in
    sym (ap (λ xs. key_at xs (p - 256)) c.self.view_is) ∙ sym (same_keys c.self.inside.lists.nodes.items mid c.make_ends.ensures.keeps.same (p - 256)) ∙ key_there mid (p - 256)
    ∙ ap (λ (n : ℕ). key_of (node mid n)) e ∙ ap key_of (node_past mid p (omega arith))

pub returns-clause-others : goal.returns-clause-others
returns-clause-others c k apart =
    let old = c.self.inside.lists.nodes.items in
    let mid = c.make_ends.new.self.nodes.items in
    let new = c.add.new.self.nodes.items in
    let p = c.in_ok-place.place in
    let last : p ≡ length mid = c.in_ok-place.ensures.place in
    let made : 256 ≤ length mid = c.in_ok-make_ends.ensures.made in
    let e : p ≡ p - 256 + 256 = omega arith in
    let keeps = subst (λ (n : ℕ). KeepsOthers n mid new) e c.in_ok-place.ensures.others in
    let here : c.if-before-lt-LISTS.self ≡ keys_of new = elim c.if-before-lt-LISTS.branch [ then-before-lt-LISTS w ↦ w.self-is | else-before-lt-LISTS w ↦ w.self-is ] in
    ap (λ xs. key_at xs k) here ∙ kept_keys mid new (p - 256) keeps k apart ∙ same_keys old mid c.make_ends.ensures.keeps.same k ∙ ap (λ xs. key_at xs k) c.self.view_is
