use Rattle.std.proofs.Common.{◌≡◌, ◌≢◌, ℕ, ◌^◌, ◌<◌, ◌≤◌, sym, ap, subst, ◌∙◌, arith, inr, length}
use Rattle.std.proofs.lemmas.Bool.{ltb-true, ltb-false}
use Rattle.sim_queue.specs.declared.lists.Node.{Node}
use Rattle.sim_queue.specs.inside.Lists.{node, list_of, order_of, key_order, HasKey, IsLinked}
use Rattle.sim_queue.proofs.Nodes.{key_within, linked_within, linked_key, node_read}
use Rattle.sim_queue.proofs.Ordered.{passes}
use Rattle.sim_queue.proofs.lists.Lists.spot_before.Goals as goal

pub loop-at-init : goal.loop-at-init
loop-at-init c =
    let nodes = c.args.self.now.nodes.items in
    let w = c.args.self.now.width in
    let last = c.args.last in
    let at : c.index.result.now.before ≡ (node nodes last).before = ap (λ (x : Node). x.before) (sym (node_read nodes last c.index.result.now (key_within nodes last c.requires.key) c.index.ensures)) in
    let x = c.requires.lists.behind last (inr c.requires.key) in
    let after : (node nodes c.index.result.now.before).after ≡ last = ap (λ (n : ℕ). (node nodes n).after) at ∙ x.back in
    let order : order_of (node nodes (node nodes c.index.result.now.before).after) ≡ order_of (node nodes last) = ap (λ (n : ℕ). order_of (node nodes n)) after in
    let behind : key_order c.args.due c.args.serial < order_of (node nodes last) = c.requires.behind in record {
      linked = subst (λ (n : ℕ). IsLinked nodes n) (sym at) x.linked;
      list = ap (λ (n : ℕ). list_of w (node nodes n)) at ∙ x.list ∙ c.requires.list;
      below = λ from. omega arith;
    }

-- a key that is not before this one is after it, since their serials differ
strict : (x : Node) (due serial : ℕ) → HasKey x → serial < 2 ^ 40 → x.serial ≢ serial → key_order due serial ≤ order_of x → key_order due serial < order_of x
strict x due serial key small apart least = omega arith

pub index-requires : goal.index-requires
index-requires c =
    let nodes = c.args.self.now.nodes.items in
    let within : c.args.last < length nodes = key_within nodes c.args.last c.requires.key in
    subst (λ (n : ℕ). c.args.last < n) (sym c.args.self.now.nodes.ok.0) within

pub index-requires-in-loop-at : goal.index-requires-in-loop-at
index-requires-in-loop-at c =
    let nodes = c.args.self.now.nodes.items in
    let at = c.loop-at.at in
    let within : at < length nodes = linked_within nodes at c.loop-at.invariant.linked in
    subst (λ (n : ℕ). at < n) (sym c.args.self.now.nodes.ok.0) within

pub index-requires-in-loop-at-2 : goal.index-requires-in-loop-at-2
index-requires-in-loop-at-2 c =
    let nodes = c.args.self.now.nodes.items in
    let at = c.loop-at.at in
    let within : at < length nodes = linked_within nodes at c.loop-at.invariant.linked in
    subst (λ (n : ℕ). at < n) (sym c.args.self.now.nodes.ok.0) within

pub is_before-requires : goal.is_before-requires
is_before-requires c =
    let nodes = c.args.self.now.nodes.items in
    let at = c.loop-at.at in
    let key = linked_key nodes at c.loop-at.invariant.linked c.loop-at-test.true in
    let is : node nodes at ≡ c.index-in-loop-at.result.now = node_read nodes at c.index-in-loop-at.result.now (key_within nodes at key) c.index-in-loop-at.ensures in
    record { key = subst (λ (x : Node). HasKey x) is key; small = c.requires.small }

pub loop-at-smaller : goal.loop-at-smaller
loop-at-smaller c =
    let nodes = c.args.self.now.nodes.items in
    let at = c.loop-at.at in
    let key = linked_key nodes at c.loop-at.invariant.linked c.loop-at-test.true in
    let before = ap (λ (x : Node). x.before) (node_read nodes at c.index-in-loop-at-2.result.now (key_within nodes at key) c.index-in-loop-at-2.ensures) in
    passes c.args.self.now.width nodes c.requires.lists at c.index-in-loop-at-2.result.now.before c.loop-at-test.true c.loop-at.invariant.linked before

pub loop-at-preserved : goal.loop-at-preserved
loop-at-preserved c =
    let nodes = c.args.self.now.nodes.items in
    let w = c.args.self.now.width in
    let at = c.loop-at.at in
    let key = linked_key nodes at c.loop-at.invariant.linked c.loop-at-test.true in
    let within = key_within nodes at key in
    let is : node nodes at ≡ c.index-in-loop-at.result.now = node_read nodes at c.index-in-loop-at.result.now within c.index-in-loop-at.ensures in
    let before : (node nodes at).before ≡ c.index-in-loop-at-2.result.now.before = ap (λ (x : Node). x.before) (node_read nodes at c.index-in-loop-at-2.result.now within c.index-in-loop-at-2.ensures) in
    let x = c.requires.lists.behind at (inr key) in
    let least : key_order c.args.due c.args.serial ≤ order_of (node nodes at) =
    subst (λ (y : Node). key_order c.args.due c.args.serial ≤ order_of y) (sym is)
    (ltb-false (order_of c.index-in-loop-at.result.now) (key_order c.args.due c.args.serial) (sym c.is_before.ensures ∙ c.if-not-is_before.true)) in
    record {
      linked = subst (λ (n : ℕ). IsLinked nodes n) before x.linked;
      list = ap (λ (n : ℕ). list_of w (node nodes n)) (sym before) ∙ x.list ∙ c.loop-at.invariant.list;
      below = λ from.
          let after : (node nodes c.index-in-loop-at-2.result.now.before).after ≡ at = ap (λ (n : ℕ). (node nodes n).after) (sym before) ∙ x.back in
          subst (λ (n : ℕ). key_order c.args.due c.args.serial < order_of (node nodes n)) (sym after)
          (strict (node nodes at) c.args.due c.args.serial key c.requires.small (c.requires.fresh at key) least);
    }

pub returns-after-loop-at : goal.returns-after-loop-at
returns-after-loop-at c =
    let inv = c.loop-at.invariant in
    let low : c.loop-at.at < 256 = c.loop-at-test.false in
    record { linked = inv.linked; list = inv.list; above = λ from. absurd (omega arith); below = inv.below }

pub returns-else-not-is_before : goal.returns-else-not-is_before
returns-else-not-is_before c =
    let nodes = c.args.self.now.nodes.items in
    let at = c.loop-at.at in
    let inv = c.loop-at.invariant in
    let key = linked_key nodes at inv.linked c.loop-at-test.true in
    let is : node nodes at ≡ c.index-in-loop-at.result.now = node_read nodes at c.index-in-loop-at.result.now (key_within nodes at key) c.index-in-loop-at.ensures in
    record {
      linked = inv.linked;
      list = inv.list;
      above = λ from.
          subst (λ (y : Node). order_of y < key_order c.args.due c.args.serial) (sym is)
          (ltb-true (order_of c.index-in-loop-at.result.now) (key_order c.args.due c.args.serial) (sym c.is_before.ensures ∙ c.if-not-is_before.false));
      below = inv.below;
    }
