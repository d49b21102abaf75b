use Rattle.std.proofs.Common.{ℕ, ◌<◌}
use Rattle.sim_links.specs.Ways.{way, IsWay}
use Rattle.sim_events.proofs.scenario.are_ways.Given as goal

abbrev pub invariant-loop-a : goal.invariant-loop-a
invariant-loop-a l = (a b : ℕ) → a < l.a → b < 32 → IsWay (way a b l.ways)
