use Rattle.std.proofs.Common.{refl}
use Rattle.sim_world.proofs.Ends.{on_ok_both}
use Rattle.sim_world.proofs.Plain.{world}
use Rattle.sim_world.proofs.Trails.{from_view, extends-queued}
use Rattle.sim_world.proofs.parts.Parts.enqueue.Goals as goal

pub returns-clause-leads : goal.returns-clause-leads
returns-clause-leads g c =
    let i = c.self.inside in
    on_ok_both c.insert.result
    (λ newest before t. from_view g.N.Node.records c.self.view_is
    (extends-queued g.N.Node.records (world i.clock i.streams.value.places i.queue i.links i.hosts.items) c.insert.new.self refl newest before))
    c.insert.ensures.newest c.insert.ensures.back
