use Rattle.std.specs.Vec.{with_item}
use Rattle.std.proofs.Common.{◌+◌, ◌<◌, length, slice_set, refl, sym, ap, subst, arith}
use Rattle.std.proofs.lemmas.List.{get_or_read}
use Rattle.std.proofs.lemmas.Result.{on_ok_weaker}
use Rattle.sim_pending.specs.Occurrence.{Body}
use Rattle.sim_world.specs.inside.Index.{IsIndex}
use Rattle.sim_world.proofs.Indexes.{index_queued, others_few}
use Rattle.sim_world.proofs.parts.Parts.queue_start.Goals as goal

pub returns-clause-index : goal.returns-clause-index
returns-clause-index g c =
    let old = c.args.index.now in
    let items = old.others.items in
    let h = c.args.h in
    let n = c.index_mut.result.now in
    let within : h < length items = (let a = c.requires.index.counted in let b = c.requires.host in omega arith) in
    let read = get_or_read items h n within c.index_mut.ensures.value 0 in
    let new = record old { others = with_item old.others h (n + 1) } in
    on_ok_weaker c.queue_up.result
    (λ e. subst (λ v. IsIndex new v.world) (sym e)
    (index_queued old new c.args.self.now.world _ h Body.Start refl refl refl refl (ap (λ k. slice_set items h (k + 1)) read) c.requires.host c.requires.index))
    c.queue_up.ensures.world

pub overflow_add-index_mut : goal.overflow_add-index_mut
overflow_add-index_mut g c =
    let old = c.args.index.now in
    let items = old.others.items in
    let h = c.args.h in
    let n = c.index_mut.result.now in
    let within : h < length items = (let a = c.requires.index.counted in let b = c.requires.host in omega arith) in
    let read = get_or_read items h n within c.index_mut.ensures.value 0 in
    let few = others_few old c.args.self.now.world h c.requires.index c.requires.queue c.requires.host in
    let room = c.requires.room in
    omega arith
