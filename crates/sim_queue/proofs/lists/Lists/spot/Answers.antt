use Rattle.std.proofs.Common.{◌≡◌, ℕ, ◌<◌, ◌≤◌, ◌%◌, length, sym, ap, subst, ◌∙◌, arith}
use Rattle.std.proofs.lemmas.Bool.{ltb-true, ltb-false}
use Rattle.sim_queue.specs.declared.lists.Node.{Node}
use Rattle.sim_queue.specs.inside.Lists.{node, day, order_of, key_order, HasKey}
use Rattle.sim_queue.proofs.Nodes.{key_within, node_read, linked_key}
use Rattle.sim_queue.proofs.Spots.{read_last, read_last_in, read_last_list, read_spot_last, read_first_key, read_spot_first, behind_other}
use Rattle.sim_queue.proofs.lists.Lists.spot.Goals as goal
use Rattle.sim_queue.proofs.lists.Lists.spot.Goals.{then-last-lt-LISTS-via-then-last-lt-LISTS, then-last-lt-LISTS-via-else-last-lt-LISTS+then-is_before}

pub index-requires-else-last-lt-LISTS : goal.index-requires-else-last-lt-LISTS
index-requires-else-last-lt-LISTS c =
    let nodes = c.args.self.now.nodes.items in
    let here : c.day.result % 256 ≡ day c.args.self.now.width c.args.due % 256 = ap (λ (d : ℕ). d % 256) c.day.ensures in
    rw c.args.self.now.nodes.ok.0
    (read_last_in c.args.self.now.width nodes c.args.due c.args.serial (c.day.result % 256) c.index.result.now c.requires.lists here (omega arith) (omega arith) c.index.ensures)

pub is_before-requires-clause-key : goal.is_before-requires-clause-key
is_before-requires-clause-key c =
    let nodes = c.args.self.now.nodes.items in
    let here : c.day.result % 256 ≡ day c.args.self.now.width c.args.due % 256 = ap (λ (d : ℕ). d % 256) c.day.ensures in
    let x = c.index.result.now in
    let linked = read_last c.args.self.now.width nodes c.args.due c.args.serial (c.day.result % 256) x c.requires.lists here (omega arith) (omega arith) c.index.ensures in
    let key = linked_key nodes x.before linked c.if-last-lt-LISTS.false in
    let read = node_read nodes x.before c.index-else-last-lt-LISTS.result.now (key_within nodes x.before key) c.index-else-last-lt-LISTS.ensures in
    subst (λ (y : Node). HasKey y) read key

pub returns-then-last-lt-LISTS : goal.returns-then-last-lt-LISTS
returns-then-last-lt-LISTS c =
    let nodes = c.args.self.now.nodes.items in
    let here : c.day.result % 256 ≡ day c.args.self.now.width c.args.due % 256 = ap (λ (d : ℕ). d % 256) c.day.ensures in
    let x = c.index.result.now in
    read_spot_last c.args.self.now.width nodes c.args.due c.args.serial (c.day.result % 256) x c.requires.lists here (omega arith) (omega arith) c.index.ensures
    (λ from. elim c.then-last-lt-LISTS.branch [
      | then-last-lt-LISTS-via-then-last-lt-LISTS w ↦ absurd (omega arith)
      | then-last-lt-LISTS-via-else-last-lt-LISTS+then-is_before w ↦
          let linked = read_last c.args.self.now.width nodes c.args.due c.args.serial (c.day.result % 256) x c.requires.lists here (omega arith) (omega arith) c.index.ensures in
          let key = linked_key nodes x.before linked from in
          let read = node_read nodes x.before w.index-else-last-lt-LISTS.result.now (key_within nodes x.before key) w.index-else-last-lt-LISTS.ensures in
          subst (λ (y : Node). order_of y < key_order c.args.due c.args.serial) (sym read) (ltb-true _ _ (sym w.is_before.ensures ∙ w.if-is_before.true))
    ])

pub index-requires-3 : goal.index-requires-3
index-requires-3 c =
    let nodes = c.args.self.now.nodes.items in
    let here : c.day.result % 256 ≡ day c.args.self.now.width c.args.due % 256 = ap (λ (d : ℕ). d % 256) c.day.ensures in
    let within : c.day.result % 256 < length nodes = omega arith in
    let same : c.index.result.now ≡ c.index-2.result.now = sym (node_read nodes (c.day.result % 256) c.index.result.now within c.index.ensures) ∙ node_read nodes (c.day.result % 256) c.index-2.result.now within c.index-2.ensures in
    let from : 256 ≤ c.index-2.result.now.before = subst (λ (y : Node). 256 ≤ y.before) same c.if-last-lt-LISTS.false in
    let key = read_first_key c.args.self.now.width nodes c.args.due c.args.serial (c.day.result % 256) c.index-2.result.now c.requires.lists here (omega arith) within c.index-2.ensures from in
    rw c.args.self.now.nodes.ok.0 (key_within nodes c.index-2.result.now.after key)

pub is_behind-requires-clause-key : goal.is_behind-requires-clause-key
is_behind-requires-clause-key c =
    let nodes = c.args.self.now.nodes.items in
    let here : c.day.result % 256 ≡ day c.args.self.now.width c.args.due % 256 = ap (λ (d : ℕ). d % 256) c.day.ensures in
    let within : c.day.result % 256 < length nodes = omega arith in
    let same : c.index.result.now ≡ c.index-2.result.now = sym (node_read nodes (c.day.result % 256) c.index.result.now within c.index.ensures) ∙ node_read nodes (c.day.result % 256) c.index-2.result.now within c.index-2.ensures in
    let from : 256 ≤ c.index-2.result.now.before = subst (λ (y : Node). 256 ≤ y.before) same c.if-last-lt-LISTS.false in
    let key = read_first_key c.args.self.now.width nodes c.args.due c.args.serial (c.day.result % 256) c.index-2.result.now c.requires.lists here (omega arith) within c.index-2.ensures from in
    subst (λ (y : Node). HasKey y) (node_read nodes c.index-2.result.now.after c.index-3.result.now (key_within nodes c.index-2.result.now.after key) c.index-3.ensures) key

pub returns-then-is_behind : goal.returns-then-is_behind
returns-then-is_behind c =
    let nodes = c.args.self.now.nodes.items in
    let here : c.day.result % 256 ≡ day c.args.self.now.width c.args.due % 256 = ap (λ (d : ℕ). d % 256) c.day.ensures in
    let within : c.day.result % 256 < length nodes = omega arith in
    let same : c.index.result.now ≡ c.index-2.result.now = sym (node_read nodes (c.day.result % 256) c.index.result.now within c.index.ensures) ∙ node_read nodes (c.day.result % 256) c.index-2.result.now within c.index-2.ensures in
    let from : 256 ≤ c.index-2.result.now.before = subst (λ (y : Node). 256 ≤ y.before) same c.if-last-lt-LISTS.false in
    let key = read_first_key c.args.self.now.width nodes c.args.due c.args.serial (c.day.result % 256) c.index-2.result.now c.requires.lists here (omega arith) within c.index-2.ensures from in
    let read = node_read nodes c.index-2.result.now.after c.index-3.result.now (key_within nodes c.index-2.result.now.after key) c.index-3.ensures in
    read_spot_first c.args.self.now.width nodes c.args.due c.args.serial (c.day.result % 256) c.index-2.result.now c.requires.lists here (omega arith) within c.index-2.ensures
    (subst (λ (y : Node). key_order c.args.due c.args.serial < order_of y) (sym read) (ltb-true _ _ (sym c.is_behind.ensures ∙ c.if-is_behind.true)))

pub spot_before-requires-clause-list : goal.spot_before-requires-clause-list
spot_before-requires-clause-list c =
    let nodes = c.args.self.now.nodes.items in
    let here : c.day.result % 256 ≡ day c.args.self.now.width c.args.due % 256 = ap (λ (d : ℕ). d % 256) c.day.ensures in
    read_last_list c.args.self.now.width nodes c.args.due c.args.serial (c.day.result % 256) c.index.result.now c.requires.lists here (omega arith) (omega arith) c.index.ensures

pub spot_before-requires-clause-behind : goal.spot_before-requires-clause-behind
spot_before-requires-clause-behind c =
    let nodes = c.args.self.now.nodes.items in
    let here : c.day.result % 256 ≡ day c.args.self.now.width c.args.due % 256 = ap (λ (d : ℕ). d % 256) c.day.ensures in
    let x = c.index.result.now in
    let linked = read_last c.args.self.now.width nodes c.args.due c.args.serial (c.day.result % 256) x c.requires.lists here (omega arith) (omega arith) c.index.ensures in
    let key = linked_key nodes x.before linked c.if-last-lt-LISTS.false in
    let read = node_read nodes x.before c.index-else-last-lt-LISTS.result.now (key_within nodes x.before key) c.index-else-last-lt-LISTS.ensures in
    let le : key_order c.args.due c.args.serial ≤ order_of (node nodes x.before) =
    subst (λ (y : Node). key_order c.args.due c.args.serial ≤ order_of y) (sym read) (ltb-false _ _ (sym c.is_before.ensures ∙ c.if-is_before.false)) in
    behind_other nodes c.args.due c.args.serial x.before key c.requires.small (c.requires.fresh x.before key) le
