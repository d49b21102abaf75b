use Rattle.std.proofs.Common.{◌+◌, ◌∙◌, map, sym, ap, arith}
use Rattle.std.proofs.lemmas.List.{drop_all}
use Rattle.sim_scenario.specs.Links.{link_seen}
use Rattle.sim_scenario.specs.Scenario.{is_repeated}
use Rattle.sim_scenario.proofs.Linking.{repeated_more, after_place}
use Rattle.sim_scenario.proofs.links.is_repeated.Goals as goal

pub loop-i-preserved : goal.loop-i-preserved
loop-i-preserved c =
    sym (repeated_more c.args.links.now _ c.loop-i.i _ _ (omega arith) (sym c.if-has_pair_of.false ∙ c.has_pair_of.ensures) (after_place c.args.links.now (c.loop-i.i + 1))) ∙ c.loop-i.invariant

pub returns-then-has_pair_of : goal.returns-then-has_pair_of
returns-then-has_pair_of c =
    sym (repeated_more c.args.links.now _ c.loop-i.i _ _ (omega arith) (sym c.if-has_pair_of.true ∙ c.has_pair_of.ensures) (after_place c.args.links.now (c.loop-i.i + 1))) ∙ c.loop-i.invariant

pub returns : goal.returns
returns c = sym (ap (λ ls. is_repeated (map link_seen ls)) (drop_all c.loop-i.i c.args.links.now (omega arith))) ∙ c.loop-i.invariant
