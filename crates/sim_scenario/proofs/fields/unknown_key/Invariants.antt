use Rattle.std.proofs.Common.{◌≡◌, map}
use Rattle.toml.specs.View.{members_view}
use Rattle.sim_scenario.specs.Scenario as scenario
use Rattle.sim_scenario.proofs.fields.unknown_key.Given as goal

abbrev pub invariant-loop-key : goal.invariant-loop-key
invariant-loop-key l =
    let known = map (λ k. k.now) l.known in
    scenario.unknown_key known (members_view l.key-iterator) ≡ scenario.unknown_key known (members_view l.table.entries)
