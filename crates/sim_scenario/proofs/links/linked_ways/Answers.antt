use Rattle.std.proofs.Common.{◌≡◌, ◌+◌, ◌∷◌, map, drop, true, false, sym, ap, ◌∙◌, arith}
use Rattle.std.proofs.lemmas.List.{drop_more, drop_all}
use Rattle.sim_links.specs.Ways.{all}
use Rattle.sim_scenario.specs.Links.{link_seen}
use Rattle.sim_scenario.specs.Scenario.{with_links, is_repeated}
use Rattle.sim_scenario.proofs.Linking.{ways_repeated, ways_said, ways_more}
use Rattle.sim_scenario.proofs.links.linked_ways.Goals as goal

pub returns-then-is_repeated : goal.returns-then-is_repeated
returns-then-is_repeated c = λ _. ways_repeated c.args.way (map link_seen c.args.links.now) (sym c.is_repeated.ensures ∙ c.if-is_repeated.true)

pub loop-link-init : goal.loop-link-init
loop-link-init c = ap (with_links (map link_seen c.args.links.now)) c.all-ways.ensures

pub loop-link-preserved : goal.loop-link-preserved
loop-link-preserved c = ways_more c.args.links.now c.loop-link.link-index _ _ _ _ (omega arith) c.set.ensures c.loop-link.invariant

pub returns : goal.returns
returns c =
    let last = ap (λ ls. with_links (map link_seen ls) c.loop-link.ways) (drop_all c.loop-link.link-index c.args.links.now (omega arith)) in
    ways_said c.args.way (map link_seen c.args.links.now) c.loop-link.ways (sym c.is_repeated.ensures ∙ c.if-is_repeated.false) (sym c.loop-link.invariant ∙ last)
