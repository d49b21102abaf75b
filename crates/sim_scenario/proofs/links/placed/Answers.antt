use Rattle.std.proofs.Common.{◌≡◌, ◌∷◌, [], ◌+◌, map, drop, Some, None, sym, ap, ◌∙◌, arith}
use Rattle.std.specs.Option.{option_map}
use Rattle.std.proofs.lemmas.List.{map-append}
use Rattle.sim_scenario.specs.Hosts.{names_in}
use Rattle.sim_scenario.specs.Links.{link_seen}
use Rattle.sim_scenario.specs.Scenario.{all_some}
use Rattle.sim_scenario.proofs.Arrays.{with_rest, with_rest-nil, read_all}
use Rattle.sim_scenario.proofs.Linking.{placed_in, placed_as, found_more, found_stop}
use Rattle.sim_scenario.proofs.links.placed.Goals as goal

pub loop-link-init : goal.loop-link-init
loop-link-init c =
    let names = names_in c.args.names.now in
    rw c.new-placed.ensures.items (with_rest-nil (placed_in names) (all_some (placed_in names) c.args.links.now))

pub loop-link-preserved : goal.loop-link-preserved
loop-link-preserved c =
    let names = names_in c.args.names.now in
    let here = c.loop-link.placed.items in
    let pushed = ap (map link_seen) c.in_ok-push.ensures.items ∙ map-append link_seen here (c.in-Some.link ∷ []) in
    c.loop-link.invariant
    ∙ found_more names c.args.links.now c.loop-link.link-index _ (link_seen c.in-Some.link) (map link_seen here) (omega arith) (sym c.link_between.ensures ∙ ap (option_map link_seen) c.in-Some.is)
    ∙ ap (λ done. with_rest (placed_in names) done (all_some (placed_in names) (drop (c.loop-link.link-index + 1) c.args.links.now))) (sym pushed)

pub returns-in_default : goal.returns-in_default
returns-in_default c =
    let names = names_in c.args.names.now in
    λ _. placed_as names c.args.links.now None
    (c.loop-link.invariant ∙ found_stop names c.args.links.now c.loop-link.link-index _ (map link_seen c.loop-link.placed.items) (omega arith) (sym c.link_between.ensures ∙ ap (option_map link_seen) c.in_default.is))

pub returns : goal.returns
returns c =
    let names = names_in c.args.names.now in
    placed_as names c.args.links.now (Some (map link_seen c.loop-link.placed.items))
    (c.loop-link.invariant ∙ read_all (placed_in names) c.args.links.now c.loop-link.link-index (map link_seen c.loop-link.placed.items) (omega arith))
