-- A failing run without the faults that its failure does not need.
use Rattle.std.specs.Prelude.{◌≡◌, ℕ, ◌≤◌, nat_lt, Bool, true, false, List, length, take}
use Rattle.std.specs.Prelude.{slice_set, slice_index_or, Option, Some, None}
use Rattle.sim_events.specs.declared.Event.{Event}
use Rattle.sim_world.specs.Events.{Rules, start}
use Rattle.sim_watch.specs.Condition.{Cond}
use Rattle.sim_scan.specs.Search.{first_failing}
use Rattle.sim_search.specs.declared.SearchFault.{SearchFault}
use Rattle.sim_search.specs.Faults.{fault_after}
use Rattle.sim_plan.specs.Happening.{happening}
use Rattle.sim_shrink.specs.Choices.{kept_by}

module _ {State Msg : Type 0} (r : Rules State Msg) where
  -- the run that events make: those of them that can happen, one after the other
  abbrev pub run_by : List Event → List Event
  run_by es = happening r (start r) es

module _ {State Msg : Type 0} (r : Rules State Msg) (c : Cond) where
  -- the first place of that run at which the condition fails
  abbrev pub failing : List Event → Option ℕ
  failing es = first_failing r c (run_by r es) 0 (length (run_by r es))

  -- that run up to this place, so that the condition fails at its end and nowhere before
  pub record IsFailingRun (es run : List Event) : Type 0 where
    pub place : ℕ
    pub first : failing es ≡ Some place
    pub cut : run ≡ take place (run_by r es)

  -- A choice is 1-minimal: without any one of the faults that stay, the condition fails nowhere.
  abbrev pub IsMinimal : List Event → List Bool → Type 0
  IsMinimal es choice =
      (i : ℕ) → slice_index_or choice i false ≡ true
      → failing (kept_by (slice_set choice i false) es) ≡ None

  -- The failing run is shrunk: it is that of a 1-minimal choice of faults. It is no longer, and the
  -- condition fails at its end and nowhere before.
  pub record IsShrunk (es run : List Event) : Type 0 where
    pub whole : List Event
    pub given : IsFailingRun es whole
    pub choice : List Bool
    pub left : IsFailingRun (kept_by choice whole) run
    pub minimal : IsMinimal whole choice
    pub shorter : length run ≤ length whole
    pub ends : first_failing r c run 0 (length run) ≡ Some (length run)

-- A run may have at most 65,536 events.
abbrev pub shrink_fault : ℕ → ℕ → ℕ → Cond → Option SearchFault
shrink_fault events hosts probes c = fault_after (nat_lt 65536 events) hosts probes c
