use Rattle.std.proofs.Common.{◌≡◌, map, drop, string_bytes}
use Rattle.sim_scenario.specs.Scenario as scenario
use Rattle.sim_scenario.proofs.Arrays.{with_rest, text_of}
use Rattle.sim_scenario.proofs.hosts.item_texts.Given as goal

abbrev pub invariant-loop-item : goal.invariant-loop-item
invariant-loop-item l = scenario.all_some text_of l.items ≡ with_rest text_of (map string_bytes l.texts.items) (scenario.all_some text_of (drop l.item-index l.items))
