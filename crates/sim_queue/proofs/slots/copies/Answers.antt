use Rattle.std.proofs.Common.{◌≡◌, ◌<◌, ◌≤◌, ℕ, ap, sym, subst, ◌∙◌, arith, length, None, Some}
use Rattle.std.specs.Option.{option_copied}
use Rattle.std.specs.Vec.{vec_len}
use Rattle.sim_queue.specs.inside.Sparse.{body_at, items_at}
use Rattle.sim_queue.specs.inside.Wheel.{key_at}
use Rattle.sim_queue.proofs.Packing.{more_none, more_some, fewer_items, items_past}
use Rattle.sim_queue.proofs.Sparse.{read_body}
use Rattle.sim_queue.proofs.slots.copies.Goals as goal

pub key_if-requires : goal.key_if-requires
key_if-requires g c =
    let lt : c.loop-at.at < c.places.result = let a = c.min-places.ensures in omega arith in
    c.places.ensures.within c.loop-at.at lt

pub loop-at-preserved-in_default : goal.loop-at-preserved-in_default
loop-at-preserved-in_default g c = record {
  items = more_none c.loop-at.at c.args.wheel.now c.as_slice-bodies.result.now c.loop-at.items.items c.loop-at.invariant.items c.in_default.ensures;
  room = c.loop-at.invariant.room;
}

pub push_copy-requires-clause-room : goal.push_copy-requires-clause-room
push_copy-requires-clause-room g c =
    let n = c.loop-at.at in
    let bodies = c.as_slice-bodies.result.now in
    let inside : n < length bodies = let a = c.min-places.ensures in omega arith in
    let body : body_at bodies n ≡ Some c.unwrap-body.result.now =
    read_body bodies n c.index-bodies-at.result inside c.index-bodies-at.is ∙ sym c.as_ref.ensures.value ∙ ap (λ o. option_copied o) c.unwrap-body.ensures in
    let fewer = fewer_items n (length bodies) c.in-Some.due c.in-Some.serial c.unwrap-body.result.now c.args.wheel.now bodies inside c.in-Some.ensures body in
    let all : length (items_at (length bodies) c.args.wheel.now bodies) ≤ c.args.count =
    subst (λ xs. length (items_at (length xs) c.args.wheel.now xs) ≤ c.args.count) (sym c.as_slice-bodies.ensures.value) c.requires.room in
    let len : vec_len c.loop-at.items ≡ length (items_at n c.args.wheel.now bodies) = c.loop-at.items.ok.0 ∙ ap (λ xs. length xs) c.loop-at.invariant.items in
    let room = c.loop-at.invariant.room in
    omega arith

pub loop-at-preserved : goal.loop-at-preserved
loop-at-preserved g c =
    let n = c.loop-at.at in
    let bodies = c.as_slice-bodies.result.now in
    let inside : n < length bodies = let a = c.min-places.ensures in omega arith in
    let body : body_at bodies n ≡ Some c.unwrap-body.result.now =
    read_body bodies n c.index-bodies-at.result inside c.index-bodies-at.is ∙ sym c.as_ref.ensures.value ∙ ap (λ o. option_copied o) c.unwrap-body.ensures in
    record {
      items = c.in_ok-push_copy.ensures.items
          ∙ more_some n c.in-Some.due c.in-Some.serial c.unwrap-body.result.now c.args.wheel.now bodies c.loop-at.items.items c.loop-at.invariant.items c.in-Some.ensures body;
      room = c.push_copy.ensures.capacity ∙ c.loop-at.invariant.room;
    }

pub returns : goal.returns
returns g c =
    let n = c.loop-at.at in
    let bodies = c.as_slice-bodies.result.now in
    let value = c.as_slice-bodies.ensures.value in
    let order : n ≤ length bodies = let a = c.min-places.ensures in omega arith in
    let none : (k : ℕ) → n ≤ k → k < length bodies → key_at c.args.wheel.now k ≡ None = λ k ge lt.
    let past : c.places.result ≤ k = let a = c.min-places.ensures in omega arith in c.places.ensures.all k past in
    c.loop-at.invariant.items ∙ items_past n (length bodies) c.args.wheel.now bodies order none ∙ ap (λ xs. items_at (length xs) c.args.wheel.now xs) value
