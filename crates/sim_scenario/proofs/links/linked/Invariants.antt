use Rattle.std.proofs.Common.{◌≡◌, [], map, drop}
use Rattle.sim_scenario.specs.Links.{link_said}
use Rattle.sim_scenario.specs.Parts as parts
use Rattle.sim_scenario.proofs.Arrays.{members_of_ref}
use Rattle.sim_scenario.proofs.links.linked.Given as goal

abbrev pub invariant-loop-table : goal.invariant-loop-table
invariant-loop-table l = parts.linked [] (map members_of_ref l.tables) ≡ parts.linked (map link_said l.links.items) (map members_of_ref (drop l.table-index l.tables))
