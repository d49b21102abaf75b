use Rattle.std.proofs.Common.{◌≡◌, map, drop}
use Rattle.sim_links.specs.Ways.{all}
use Rattle.sim_scenario.specs.Links.{link_seen}
use Rattle.sim_scenario.specs.Scenario as scenario
use Rattle.sim_scenario.proofs.links.linked_ways.Given as goal

abbrev pub invariant-loop-link : goal.invariant-loop-link
invariant-loop-link l = scenario.with_links (map link_seen (drop l.link-index l.links)) l.ways ≡ scenario.with_links (map link_seen l.links) (all l.fn.way)
