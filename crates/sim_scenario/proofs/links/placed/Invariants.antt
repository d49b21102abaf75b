use Rattle.std.proofs.Common.{◌≡◌, map, drop}
use Rattle.sim_scenario.specs.Hosts.{names_in}
use Rattle.sim_scenario.specs.Links.{link_seen}
use Rattle.sim_scenario.specs.Scenario.{all_some}
use Rattle.sim_scenario.proofs.Arrays.{with_rest}
use Rattle.sim_scenario.proofs.Linking.{placed_in}
use Rattle.sim_scenario.proofs.links.placed.Given as goal

abbrev pub invariant-loop-link : goal.invariant-loop-link
invariant-loop-link l =
    let names = names_in l.names in
    all_some (placed_in names) l.links ≡ with_rest (placed_in names) (map link_seen l.placed.items) (all_some (placed_in names) (drop l.link-index l.links))
