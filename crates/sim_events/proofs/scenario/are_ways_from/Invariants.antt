use Rattle.std.proofs.Common.{ℕ, ◌<◌}
use Rattle.sim_links.specs.Ways.{way, IsWay}
use Rattle.sim_events.proofs.scenario.are_ways_from.Given as goal

abbrev pub invariant-loop-b : goal.invariant-loop-b
invariant-loop-b l = (b : ℕ) → b < l.b → IsWay (way l.a b l.ways)
