use Rattle.std.proofs.Common.{◌≡◌, ℕ, ◌<◌, false, length, slice_index_or}
use Rattle.std.specs.List.{list_any}
use Rattle.sim_watch.specs.Condition.{terms, concerns}
use Rattle.sim_watch.proofs.cond.Cond.concerned.Given as goal

abbrev pub invariant-loop-host : goal.invariant-loop-host
invariant-loop-host l = (length l.concerned ≡ 32) × ((h : ℕ) → h < l.host → slice_index_or l.concerned h false ≡ list_any (concerns h) (terms l.self))
