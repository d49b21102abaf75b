use Rattle.std.proofs.Common.{refl, ◌+◌, ◌<◌, length, slice_set, slice_index, ap, ◌∙◌, arith}
use Rattle.sim_world.proofs.Plain.{world}
use Rattle.sim_world.proofs.Trails.{from_view}
use Rattle.sim_world.proofs.PartChanges.{extends-drew}
use Rattle.sim_world.proofs.parts.Parts.draw_crossing.Goals as goal

pub returns-clause-leads : goal.returns-clause-leads
returns-clause-leads g c =
    let i = c.self.inside in
    let e = ap (λ v. length v.world.places) c.self.view_is in
    let known : 0 < length i.streams.value.places = (let p = c.requires.places in omega arith) in
    λ t. from_view g.N.Node.records c.self.view_is
    (extends-drew g.N.Node.records (world i.clock i.streams.value.places i.queue i.links i.hosts.items) c.draw_crossing.new.streams.places 0 2 refl known
    (ap (λ v. v.places) c.draw_crossing.ensures.streams ∙ ap (λ v. slice_set v.places 0 (slice_index v.places 0 + 2)) c.deref_mut.ensures.value))
