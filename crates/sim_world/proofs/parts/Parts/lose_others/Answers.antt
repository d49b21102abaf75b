use Rattle.std.specs.Vec.{with_item}
use Rattle.std.specs.List.{count_by}
use Rattle.std.proofs.Common.{◌<◌, ◌∙◌, length, refl, ap, sym, subst, arith}
use Rattle.std.proofs.lemmas.List.{get_or_read}
use Rattle.std.proofs.lemmas.Result.{on_ok_weaker}
use Rattle.sim_pending.specs.Occurrence.{is_lost_by_crash}
use Rattle.sim_world.specs.World.{World}
use Rattle.sim_world.specs.inside.Index.{IsIndex, listed}
use Rattle.sim_world.proofs.Facts.{lost_count}
use Rattle.sim_world.proofs.Trails.{from_view}
use Rattle.sim_world.proofs.LostIndex.{lost_index}
use Rattle.sim_world.proofs.parts.Parts.lose_others.Goals as goal

pub returns-clause-trail : goal.returns-clause-trail
returns-clause-trail g c =
    let s = c.self.inside in
    let records = g.N.Node.records in
    let w : World g.row.N.Denot g.row.N-Msg.Denot = record { clock = s.clock; places = s.streams.value.places; queue = s.queue; links = s.links; hosts = s.hosts.items } in
    on_ok_weaker c.purge.result (λ leads. from_view records c.self.view_is (leads w)) c.purge.ensures.trail

pub returns-clause-index : goal.returns-clause-index
returns-clause-index g c =
    let s = c.self.inside in
    let index = c.args.index.now in
    let w : World g.row.N.Denot g.row.N-Msg.Denot = record { clock = s.clock; places = s.streams.value.places; queue = s.queue; links = s.links; hosts = s.hosts.items } in
    on_ok_weaker c.purge.result
    (λ purged. lost_index w c.args.h index (record index { others = with_item index.others c.args.h 0 }) c.purge.new.queue (subst (λ v. IsIndex index v.world) (sym c.self.view_is) c.requires.index) c.requires.none refl refl refl refl purged)
    c.purge.ensures.purged

pub purge-requires-clause-count : goal.purge-requires-clause-count
purge-requires-clause-count g c =
    let h = c.args.h in
    let index = c.args.index.now in
    let is = c.requires.index in
    let none = is.timers h c.requires.host ∙ ap listed c.requires.none in
    let few = lost_count h c.args.self.now.world.queue.items none ∙ is.others h c.requires.host in
    let within : h < length index.others.items = (let a = is.counted in let b = c.requires.host in omega arith) in
    let read = get_or_read index.others.items h c.index-count.result.now within c.index-count.ensures 0 in
    ap (λ v. count_by (is_lost_by_crash h) v.world.queue.items) c.self.view_is ∙ (few ∙ sym read)
