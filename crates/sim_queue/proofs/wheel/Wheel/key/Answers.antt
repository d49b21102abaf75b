use Rattle.std.proofs.Common.{◌≡◌, ◌+◌, Some, is_some, true, ap, ◌∙◌}
use Rattle.sim_queue.specs.declared.lists.Node.{Node}
use Rattle.sim_queue.specs.inside.Wheel.{keys_of, key_at}
use Rattle.sim_queue.proofs.Nodes.{key_within, node_read}
use Rattle.sim_queue.proofs.Turning.{key_of_some, key_of_node}
use Rattle.sim_queue.proofs.wheel.Wheel.key.Goals as goal

pub returns : goal.returns
returns c =
    let nodes = c.self.inside.lists.nodes.items in
    let k = c.args.place in
    let some : is_some (key_at (keys_of nodes) k) ≡ true = rw c.self.view_is c.requires in
    let key = key_of_some nodes k some in
    let read = node_read nodes (k + 256) c.index-node.result.now (key_within nodes (k + 256) key) c.index-node.ensures in
    rw (← c.self.view_is) (key_of_node nodes k key ∙ ap (λ (x : Node). Some (x.due, x.serial)) read)
