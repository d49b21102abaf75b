-- What holds for the watches of a branch, and which of them fails in a world.
use Rattle.std.specs.Prelude.{◌≡◌, ℕ, ◌<◌, ◌≤◌, Bool, false, not, List, Option, Some, None}
use Rattle.std.specs.Prelude.{IfSome, slice_index_or}
use Rattle.std.specs.List.{find, list_any}
use Rattle.sim_node.specs.Numbers.{numbers_from}
use Rattle.sim_queue.specs.Pending.{first}
use Rattle.sim_world.specs.World.{World}
use Rattle.sim_world.specs.Acts.{first_host}
use Rattle.sim_world.specs.Events.{Rules}
use Rattle.sim_watch.specs.Condition.{Cond, terms, concerns, fault_of, holds}

-- each was checked against the numbers of hosts and of probes
abbrev pub AreChecked : ℕ → ℕ → List (Option Cond) → Type 0
AreChecked hosts probes watches =
    (k : ℕ) → IfSome (slice_index_or watches k None) (λ c. fault_of hosts probes c ≡ None)

-- no watch has a number from n on
abbrev pub NoneFrom : ℕ → List (Option Cond) → Type 0
NoneFrom n watches = (k : ℕ) → n ≤ k → slice_index_or watches k None ≡ None

-- no watch has a term about host h
abbrev pub NoneConcerns : ℕ → List (Option Cond) → Type 0
NoneConcerns h watches =
    (k : ℕ) → IfSome (slice_index_or watches k None)
    (λ c. list_any (concerns h) (terms c) ≡ false)

-- the next step is of a host below 32 that has no mark
abbrev pub IsNextUnmarked : {State Msg : Type 0} → List Bool → World State Msg → Type 0
IsNextUnmarked marks w =
    (first_host (first w.queue.items) < 32)
    × (slice_index_or marks (first_host (first w.queue.items)) false ≡ false)

module _ {State Msg : Type 0} (r : Rules State Msg) where
  -- the lowest watch that fails in a world
  abbrev pub watch_fails : World State Msg → Option Cond → Bool
  watch_fails w None = false
  watch_fails w (Some c) = not (holds r.node c w)

  abbrev pub failing_watch : List (Option Cond) → World State Msg → Option ℕ
  failing_watch watches w =
      find (λ k. watch_fails w (slice_index_or watches k None)) (numbers_from 0 8)
