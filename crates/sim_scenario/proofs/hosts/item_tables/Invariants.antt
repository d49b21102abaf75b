use Rattle.std.proofs.Common.{◌≡◌, map, drop}
use Rattle.toml.specs.View.{table_view}
use Rattle.sim_scenario.specs.Scenario as scenario
use Rattle.sim_scenario.proofs.Arrays.{with_rest, table_of}
use Rattle.sim_scenario.proofs.hosts.item_tables.Given as goal

abbrev pub invariant-loop-item : goal.invariant-loop-item
invariant-loop-item l = scenario.all_some table_of l.items ≡ with_rest table_of (map (λ t. table_view t.now) l.tables.items) (scenario.all_some table_of (drop l.item-index l.items))
