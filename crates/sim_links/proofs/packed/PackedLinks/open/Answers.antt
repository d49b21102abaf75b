use Rattle.std.proofs.Common.{◌∙◌, ap, sym, arith}
use Rattle.std.specs.List.{fold}
use Rattle.std.proofs.lemmas.List.{at_drop_all}
use Rattle.sim_links.specs.Places.{with_kept, links_of}
use Rattle.sim_links.specs.Table.{links_in}
use Rattle.sim_links.proofs.Places.{next_put}
use Rattle.sim_links.proofs.packed.PackedLinks.open.Goals as goal

pub loop-kept-init : goal.loop-kept-init
loop-kept-init g c =
    let all = c.deref-kept-items.result.now in
    record { sound = c.in_ok-table.ensures.sound; rest = ap (λ links. fold with_kept links all) c.in_ok-table.ensures.links }

pub returns : goal.returns
returns g c =
    let all = c.deref-kept-items.result.now in
    sym (at_drop_all (fold with_kept (links_in c.loop-kept.table)) all c.loop-kept.kept-index (omega arith))
    ∙ c.loop-kept.invariant.rest ∙ ap links_of c.deref-kept-items.ensures.value ∙ c.self.view_is

pub loop-kept-preserved : goal.loop-kept-preserved
loop-kept-preserved g c = record {
  sound = c.put.ensures.sound;
  rest = next_put (links_in c.loop-kept.table) (links_in c.put.new.self) c.deref-kept-items.result.now c.loop-kept.kept-index c.kept-item.result c.in_ok-copy.copy
      c.loop-kept.invariant.rest c.loop-kept-test.true c.kept-item.is c.in_ok-copy.ensures c.put.ensures.links;
}

pub invariant_of-result : goal.invariant_of-result
invariant_of-result g c = c.loop-kept.invariant.sound
