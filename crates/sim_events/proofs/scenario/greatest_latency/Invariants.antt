use Rattle.std.proofs.Common.{ℕ, ◌<◌, ◌≤◌}
use Rattle.sim_links.specs.Ways.{way}
use Rattle.sim_events.proofs.scenario.greatest_latency.Given as goal

abbrev pub invariant-loop-a : goal.invariant-loop-a
invariant-loop-a l = (a b : ℕ) → a < l.a → b < l.hosts → (way a b l.ways).latency_max ≤ l.greatest
