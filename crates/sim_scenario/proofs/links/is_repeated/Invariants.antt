use Rattle.std.proofs.Common.{◌≡◌, map, drop}
use Rattle.sim_scenario.specs.Links.{link_seen}
use Rattle.sim_scenario.specs.Scenario as scenario
use Rattle.sim_scenario.proofs.links.is_repeated.Given as goal

abbrev pub invariant-loop-i : goal.invariant-loop-i
invariant-loop-i l = scenario.is_repeated (map link_seen (drop l.i l.links)) ≡ scenario.is_repeated (map link_seen l.links)
