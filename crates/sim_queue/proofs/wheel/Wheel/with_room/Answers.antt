use Rattle.std.proofs.Common.{◌+◌, ◌∙◌}
use Rattle.std.proofs.lemmas.List.{length-map}
use Rattle.sim_queue.specs.inside.Lists.{node}
use Rattle.sim_queue.specs.inside.Wheel.{key_of}
use Rattle.sim_queue.proofs.Turning.{key_there, key_none}
use Rattle.sim_queue.proofs.wheel.Wheel.with_room.Goals as goal

pub returns-clause-none : goal.returns-clause-none
returns-clause-none c k =
    let nodes = c.in_ok-with_room.field-0.nodes.items in
    key_there nodes k ∙ key_none (node nodes (k + 256)) (c.in_ok-with_room.ensures.none (k + 256))

pub returns-clause-places : goal.returns-clause-places
returns-clause-places c = length-map c.in_ok-with_room.field-0.nodes.items key_of ∙ c.in_ok-with_room.ensures.size
