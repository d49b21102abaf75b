use Rattle.std.proofs.Common.{ℕ, ◌<◌, ◌≤◌, slice_index}
use Rattle.sim_events.proofs.scenario.have_operations.Given as goal

abbrev pub invariant-loop-h : goal.invariant-loop-h
invariant-loop-h l = (h : ℕ) → l.setup.servers ≤ h → h < l.h → (1 ≤ slice_index l.setup.ops h) × (slice_index l.setup.ops h ≤ 1000)
