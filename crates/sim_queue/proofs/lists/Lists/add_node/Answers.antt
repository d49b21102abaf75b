use Rattle.std.proofs.Common.{◌≡◌, ◌+◌, ◌<◌, ◌≤◌, List, [], ◌∷◌, ◌++◌, length, ap, ◌∙◌, arith, refl}
use Rattle.std.proofs.lemmas.List.{length_push}
use Rattle.sim_queue.specs.declared.lists.Node.{Node}
use Rattle.sim_queue.specs.inside.Lists.{node, no_node}
use Rattle.sim_queue.proofs.Nodes.{node_past}
use Rattle.sim_queue.proofs.Ends.{node_pushed, lists_same}
use Rattle.sim_queue.proofs.lists.Lists.add_node.Goals as goal

pub returns-clause-keeps : goal.returns-clause-keeps
returns-clause-keeps c =
    let old = c.args.self.now.nodes.items in
    let new = c.push.new.self.items in
    let is : new ≡ old ++ no_node ∷ [] = c.in_ok-push.ensures.items ∙ ap (λ (x : Node). old ++ x ∷ []) c.free_node.ensures in
    let size : length new ≡ length old + 1 = ap (λ (xs : List Node). length xs) is ∙ length_push old no_node in
    let last : c.len-place.result ≡ length old = c.len-place.ensures ∙ c.args.self.now.nodes.ok.0 in
    let below : c.len-place.result < 4294967295 = c.if-place.false in
    record {
      width = refl;
      lists = lists_same c.args.self.now.width old new (λ i. ap (λ (xs : List Node). node xs i) is ∙ node_pushed old i) (omega arith) c.requires.made c.requires.lists;
      same = λ i from. ap (λ (xs : List Node). node xs i) is ∙ node_pushed old i;
      size = λ few. omega arith;
    }

pub returns-clause-free : goal.returns-clause-free
returns-clause-free c =
    let old = c.args.self.now.nodes.items in
    let new = c.push.new.self.items in
    let p = c.len-place.result in
    let is : new ≡ old ++ no_node ∷ [] = c.in_ok-push.ensures.items ∙ ap (λ (x : Node). old ++ x ∷ []) c.free_node.ensures in
    let size : length new ≡ length old + 1 = ap (λ (xs : List Node). length xs) is ∙ length_push old no_node in
    let last : p ≡ length old = c.len-place.ensures ∙ c.args.self.now.nodes.ok.0 in
    let made : 256 ≤ length old = c.requires.made in
    let serial : (node new p).serial ≡ 18446744073709551615 =
    ap (λ (xs : List Node). (node xs p).serial) is ∙ ap (λ (x : Node). x.serial) (node_pushed old p ∙ node_past old p (omega arith)) in
    record { from = omega arith; within = omega arith; free = omega arith }
