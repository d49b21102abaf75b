use Rattle.std.proofs.Common.{◌≡◌, ◌++◌, [], reverse, map, length, string_bytes}
use Rattle.std.specs.Vec.Iter.{into_iter_items}
use Rattle.sim_scenario.specs.Hosts.{names_in, IsNumbered}
use Rattle.sim_scenario.specs.Scenario as scenario
use Rattle.sim_scenario.proofs.hosts.number_hosts.Given as goal

abbrev pub invariant-loop-name : goal.invariant-loop-name
invariant-loop-name l = record {
  can_next : (goal.iterator-loop-name).can_next l.name-iterator;
  is_finite : (goal.iterator-loop-name).is_finite l.name-iterator;
  names : names_in l.hosts ++ map string_bytes (into_iter_items l.name-iterator) ≡ map string_bytes l.fn.names.items;
  repeated : scenario.repeated_from (length (names_in l.hosts)) (reverse (names_in l.hosts)) (map string_bytes (into_iter_items l.name-iterator))
      ≡ scenario.repeated_from 0 [] (map string_bytes l.fn.names.items);
  numbered : IsNumbered l.hosts;
}
