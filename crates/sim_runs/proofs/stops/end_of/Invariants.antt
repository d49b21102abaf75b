use Rattle.std.proofs.Common.{◌≡◌, ℕ, ◌<◌, ◌≤◌, None, get_or}
use Rattle.sim_runs.proofs.stops.end_of.Given as goal

abbrev pub invariant-loop-number : goal.invariant-loop-number
invariant-loop-number l = (l.end ≤ l.number) × ((k : ℕ) → l.end ≤ k → k < l.number → get_or l.watches k None ≡ None)
