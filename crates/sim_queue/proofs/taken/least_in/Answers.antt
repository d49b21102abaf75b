use Rattle.std.proofs.Common.{◌≡◌, ℕ, ◌+◌, ◌-◌, ◌<◌, length, Option, None, sym, ap, ◌∙◌, subst, arith, rules, inl, inr, ⊎_elim}
use Rattle.sim_queue.specs.declared.lists.Node.{Node}
use Rattle.sim_queue.specs.inside.Lists.{node, list_of, order_of, IsLinked}
use Rattle.sim_queue.specs.inside.Sparse.{body_at}
use Rattle.sim_queue.specs.inside.Taken.{taken_serial, IsLeastAmong}
use Rattle.sim_queue.specs.inside.Wheel.{key_of, keys_of, key_at}
use Rattle.sim_queue.proofs.Nodes.{key_within, linked_within, linked_key, node_read}
use Rattle.sim_queue.proofs.Ordered.{IsPast, earlier, last_key, passes}
use Rattle.sim_queue.proofs.Turning.{key_there}
use Rattle.sim_queue.proofs.Finding.{least_none, least_here, least_both, least_fewer}
use Rattle.sim_queue.proofs.taken.least_in.Goals as goal

pub loop-at-init : goal.loop-at-init
loop-at-init g c =
    let nodes = c.args.lists.now.nodes.items in
    let w = c.args.lists.now.width in
    let l = c.args.list in
    let within : l < length nodes = search rules in
    let at : (node nodes l).before ≡ c.in_ok-at.field-0.now.before = search rules in
    let x = c.requires.lists.behind l (inl (c.requires.list, within)) in
    record {
      linked = subst (λ (n : ℕ). IsLinked nodes n) at x.linked;
      list = ap (λ (n : ℕ). list_of w (node nodes n)) (sym at) ∙ x.list ∙ c.requires.lists.lists l c.requires.list within;
      seen = λ p tests.
          subst (λ (n : ℕ). IsLeastAmong p (λ k. IsPast w nodes l n (k + 256)) (keys_of nodes) c.args.bodies.now.items c.args.from None) at
          (least_none p nodes c.args.bodies.now.items c.args.from (λ k. IsPast w nodes l (node nodes l).before (k + 256))
          (λ k key past. last_key w nodes c.requires.lists l (k + 256) c.requires.list within key past.0 past.1));
    }

pub loop-at-preserved : goal.loop-at-preserved
loop-at-preserved g c =
    let nodes = c.args.lists.now.nodes.items in
    let bodies = c.args.bodies.now.items in
    let w = c.args.lists.now.width in
    let l = c.args.list in
    let at = c.loop-at.at in
    let key = linked_key nodes at c.loop-at.invariant.linked (omega arith) in
    let read : (node nodes at).before ≡ c.index.result.now.before = ap (λ (x : Node). x.before) (node_read nodes at c.index.result.now (key_within nodes at key) c.index.ensures) in
    let x = c.requires.lists.behind at (inr key) in
    let e : at - 256 + 256 ≡ at = omega arith in
    let keyed : key_at (keys_of nodes) (at - 256) ≡ key_of (node nodes at) = key_there nodes (at - 256) ∙ ap (λ (n : ℕ). key_of (node nodes n)) e in
    record {
      linked = subst (λ (n : ℕ). IsLinked nodes n) read x.linked;
      list = ap (λ (n : ℕ). list_of w (node nodes n)) (sym read) ∙ x.list ∙ c.loop-at.invariant.list;
      seen = λ p tests.
          let here : c.taken_at.result ≡ taken_serial p c.args.from (key_at (keys_of nodes) (at - 256)) (body_at bodies (at - 256)) =
          c.taken_at.ensures p tests ∙ ap (λ o. taken_serial p c.args.from o (body_at bodies (at - 256))) (sym keyed) in
          let both = least_both p nodes bodies c.args.from (λ k. IsPast w nodes l at (k + 256)) (λ k. k ≡ at - 256) (λ k. IsPast w nodes l (node nodes at).before (k + 256))
          c.loop-at.least c.taken_at.result (c.loop-at.invariant.seen p tests) (least_here p nodes bodies c.args.from (at - 256) c.taken_at.result here)
          (λ k other past. ⊎_elim
          (λ (same : k + 256 ≡ at). inr (omega arith))
          (λ (up : order_of (node nodes at) < order_of (node nodes (k + 256))). inl (past.0, λ ge. up))
          (earlier w nodes c.requires.lists at (k + 256) key other (past.0 ∙ sym c.loop-at.invariant.list) past.1)) in
          subst (λ (n : ℕ). IsLeastAmong p (λ k. IsPast w nodes l n (k + 256)) (keys_of nodes) bodies c.args.from c.lesser-least.result) read
          (subst (λ (r : Option ℕ). IsLeastAmong p (λ k. IsPast w nodes l (node nodes at).before (k + 256)) (keys_of nodes) bodies c.args.from r) (sym c.lesser-least.ensures) both);
    }

pub returns : goal.returns
returns g c p tests =
    let nodes = c.args.lists.now.nodes.items in
    let w = c.args.lists.now.width in
    let l = c.args.list in
    let low : c.loop-at.at < 256 = omega arith in
    least_fewer p nodes c.args.bodies.now.items c.args.from (λ k. IsPast w nodes l c.loop-at.at (k + 256)) (λ k. list_of w (node nodes (k + 256)) ≡ l) c.loop-at.least
    (c.loop-at.invariant.seen p tests) (λ k key here. (here, λ ge. absurd (omega arith)))

pub loop-at-smaller : goal.loop-at-smaller
loop-at-smaller g c =
    let nodes = c.args.lists.now.nodes.items in
    let at = c.loop-at.at in
    let key = linked_key nodes at c.loop-at.invariant.linked c.loop-at-test.true in
    let before = ap (λ (x : Node). x.before) (node_read nodes at c.index.result.now (key_within nodes at key) c.index.ensures) in
    passes c.args.lists.now.width nodes c.requires.lists at c.index.result.now.before c.loop-at-test.true c.loop-at.invariant.linked before

pub index-requires : goal.index-requires
index-requires g c =
    let nodes = c.args.lists.now.nodes.items in
    let within : c.loop-at.at < length nodes = linked_within nodes c.loop-at.at c.loop-at.invariant.linked in
    subst (λ (n : ℕ). c.loop-at.at < n) (sym c.args.lists.now.nodes.ok.0) within

pub taken_at-requires : goal.taken_at-requires
taken_at-requires g c = record {
  callable = c.requires.callable;
  lists = c.requires.lists;
  bodies = c.requires.bodies;
  key = linked_key c.args.lists.now.nodes.items c.loop-at.at c.loop-at.invariant.linked c.loop-at-test.true;
}
