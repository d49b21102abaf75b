use Rattle.std.proofs.Common.{ℕ, ◌<◌, ◌≤◌}
use Rattle.sim_links.specs.Ways.{way}
use Rattle.sim_events.proofs.scenario.greatest_from.Given as goal

abbrev pub invariant-loop-b : goal.invariant-loop-b
invariant-loop-b l = (b : ℕ) → b < l.b → (way l.a b l.ways).latency_max ≤ l.greatest
