use Rattle.std.proofs.Common.{◌≡◌, ℕ, ◌<◌, false, None, get_or}
use Rattle.std.specs.Prelude.{IfSome}
use Rattle.std.specs.List.{list_any}
use Rattle.sim_watch.specs.Condition.{terms, concerns}
use Rattle.sim_runs.proofs.stops.concerned_hosts.Given as goal

abbrev pub invariant-loop-number : goal.invariant-loop-number
invariant-loop-number l = (h : ℕ) → h < 32 → get_or l.concerned h false ≡ false → (k : ℕ) → k < l.number → IfSome (get_or l.watches k None) (λ c. list_any (concerns h) (terms c) ≡ false)
