use Rattle.std.proofs.Common.{◌≡◌, ℕ, ◌<◌, ◌||◌, false, length, get_or}
use Rattle.sim_runs.proofs.stops.either.Given as goal

abbrev pub invariant-loop-host : goal.invariant-loop-host
invariant-loop-host l = (length l.either' ≡ 32) × ((h : ℕ) → h < l.host → get_or l.either' h false ≡ (get_or l.a h false || get_or l.b h false))
