-- When a search or a sweep is refused.
use Rattle.std.specs.Prelude.{ℕ, ◌+◌, ◌^◌, ◌==◌, ◌||◌, nat_lt, Bool, Option, None, Some}
use Rattle.std.specs.Prelude.{if◌then◌else◌}
use Rattle.std.specs.Option.{is_some, unwrap_or}
use Rattle.sim_watch.specs.Condition.{Cond, fault_of}
use Rattle.sim_search.specs.declared.SearchFault.{SearchFault}
use Rattle.sim_search.specs.declared.SearchFault.TheVariants.{BadRange, BadCondition, NoMemory}

-- the range is checked before the condition
abbrev pub fault_after : Bool → ℕ → ℕ → Cond → Option SearchFault
fault_after bad_range hosts probes c =
    if bad_range then Some BadRange
    else if is_some (fault_of hosts probes c) then Some BadCondition
    else None

-- the places `lo` to `hi` are out of order, or pass the kept end
abbrev pub is_bad_search : ℕ → ℕ → ℕ → Bool
is_bad_search lo hi end = nat_lt hi lo || nat_lt end hi

abbrev pub search_fault : ℕ → ℕ → ℕ → ℕ → ℕ → Cond → Option SearchFault
search_fault lo hi end hosts probes c = fault_after (is_bad_search lo hi end) hosts probes c

-- there are no seeds or more than 2 ^ 32, or more than 65,536 events, or a seed number of 2 ^ 64 or
-- more
abbrev pub is_bad_sweep : ℕ → ℕ → ℕ → Bool
is_bad_sweep first count events =
    (count == 0) || (nat_lt (2 ^ 32) count || (nat_lt 65536 events
    || nat_lt (2 ^ 64) (first + count)))

abbrev pub sweep_fault : ℕ → ℕ → ℕ → ℕ → ℕ → Cond → Option SearchFault
sweep_fault first count events hosts probes c =
    fault_after (is_bad_sweep first count events) hosts probes c

-- the fault if there is one, else want of memory
abbrev pub reason : Option SearchFault → SearchFault
reason fault = unwrap_or fault NoMemory
