use Rattle.std.proofs.Common.{map, ap, ◌∙◌}
use Rattle.sim_world.specs.inside.Trail.{unboxed, synced_change, drawn_change, acted_change, sent_changes}
use Rattle.sim_world.proofs.Trails.{refilled}
use Rattle.sim_world.proofs.trail.Trail.take_memory.Goals as goal

pub returns : goal.returns
returns g c =
    let i = c.self.inside in
    refilled (synced_change i.synced) (drawn_change i.drawn) (acted_change i.acted) (sent_changes i.sent) (map unboxed i.others) (map unboxed c.take_memory.new.self)
    (ap (λ t. t.items) c.self.view_is ∙ c.requires) (ap (map unboxed) c.take_memory.ensures)
