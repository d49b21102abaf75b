-- The places of a run that a user looks for.
use Rattle.std.specs.Prelude.{◌≡◌, ℕ, ◌+◌, ◌<◌, ◌==◌, ◌&&◌, ◌⊎◌, ⊤, not, nat_le}
use Rattle.std.specs.Prelude.{Bool, true, false, List, length, take, slice_get, Option, Some, None}
use Rattle.std.specs.Prelude.{is_none, Result, Ok, Err}
use Rattle.sim_queue.specs.Pending.{first}
use Rattle.sim_queue.specs.declared.Item.{Item}
use Rattle.sim_pending.specs.Occurrence.{Occurrence}
use Rattle.sim_events.specs.declared.Event.{Event}
use Rattle.sim_events.specs.declared.Event.TheVariants as event
use Rattle.sim_events.specs.declared.Fault.TheVariants as fault
use Rattle.sim_world.specs.World.{World}
use Rattle.sim_world.specs.Events.{Rules, run}
use Rattle.sim_watch.specs.Condition.{Cond, holds, fault_of}
use Rattle.sim_watch.specs.declared.sought.Sought.{Sought}
use Rattle.sim_watch.specs.declared.sought.Sought.TheVariants as sought
use Rattle.sim_inspect.specs.declared.seeking.SeekError.{SeekError}
use Rattle.sim_inspect.specs.declared.seeking.Span.{Span}
use Rattle.sim_inspect.specs.declared.seeking.SeekError.TheVariants as seek

-- whether an occurrence is one of a host
abbrev pub is_for : {Msg : Type 0} → ℕ → Option (Item (Occurrence Msg)) → Bool
is_for h None = false
is_for h (Some x) = x.body.host == h

-- whether an event is one of a host: a step that happens to it, its crash, or its bounce
abbrev pub is_of_host : {State Msg : Type 0} → ℕ → World State Msg → Option Event → Bool
is_of_host h w (Some event.Step) = is_for h (first w.queue.items)
is_of_host h w (Some (event.Fault (fault.Crash crashed))) = crashed == h
is_of_host h w (Some (event.Fault (fault.Bounce crashed))) = crashed == h
is_of_host h w _ = false

-- whether a condition can be tested in a run
abbrev pub is_usable : {State Msg : Type 0} → Rules State Msg → Cond → Bool
is_usable r c = is_none (fault_of r.scenario.setup.hosts r.probes c)

-- Whether a place is of the kind that is looked for, by its world and the event that follows. A
-- cause is no kind of place.
abbrev pub is_met : {State Msg : Type 0} → Rules State Msg → Sought → World State Msg
    → Option Event → Bool
is_met r sought.Cause w next = false
is_met r (sought.At time) w next = nat_le time w.clock
is_met r (sought.Last host) w next = is_of_host host w next
is_met r (sought.First c) w next = is_usable r c && not (holds r.node c w)
is_met r (sought.Held c) w next = is_usable r c && holds r.node c w

abbrev pub is_met_in : {State Msg : Type 0} → Rules State Msg → Sought
    → Option (World State Msg) → Option Event → Bool
is_met_in r s None next = false
is_met_in r s (Some w) next = is_met r s w next

abbrev pub is_met_at : {State Msg : Type 0} → Rules State Msg → Sought → List Event → ℕ → Bool
is_met_at r s events p = is_met_in r s (run r (take p events)) (slice_get events p)

-- no number below the end passes
abbrev pub HasNone : (ℕ → Bool) → ℕ → Type 0
HasNone test end = (j : ℕ) → j < end → test j ≡ false

-- the first number that passes, and the last one, below the end
pub record IsFirst (test : ℕ → Bool) (end p : ℕ) : Type 0 where
  pub below : p < end
  pub met : test p ≡ true
  pub before : (j : ℕ) → j < p → test j ≡ false

pub record IsLast (test : ℕ → Bool) (end p : ℕ) : Type 0 where
  pub below : p < end
  pub met : test p ≡ true
  pub behind : (j : ℕ) → p < j → j < end → test j ≡ false

-- the first number that passes, or that there is none, and the same of the last
abbrev pub OnFirst : (ℕ → Bool) → ℕ → Option ℕ → Type 0
OnFirst test end None = HasNone test end
OnFirst test end (Some p) = IsFirst test end p

abbrev pub OnLast : (ℕ → Bool) → ℕ → Option ℕ → Type 0
OnLast test end None = HasNone test end
OnLast test end (Some p) = IsLast test end p

-- A search finds such a place. Or it goes nowhere, for such a reason. Or memory is wanted.
abbrev pub IsAnswer : (ℕ → Type 0) → Type 0 → Result ℕ SeekError → Type 0
IsAnswer Place Reason (Ok p) = Place p
IsAnswer Place Reason (Err (seek.Nowhere why)) = Reason
IsAnswer Place Reason (Err (seek.Refused why)) = ⊥
IsAnswer Place Reason (Err seek.NoMemory) = ⊤

abbrev pub FindsFirst : (ℕ → Bool) → ℕ → Result ℕ SeekError → Type 0
FindsFirst test end = IsAnswer (IsFirst test end) (HasNone test end)

abbrev pub FindsLast : (ℕ → Bool) → ℕ → Result ℕ SeekError → Type 0
FindsLast test end = IsAnswer (IsLast test end) (HasNone test end)

-- The last place before `here` goes nowhere too if `here` itself is such a place.
abbrev pub FindsLastBefore : (ℕ → Bool) → ℕ → Result ℕ SeekError → Type 0
FindsLastBefore test here =
    IsAnswer (λ p. IsLast test (here + 1) p × (p < here))
    (HasNone test (here + 1) ⊎ (test here ≡ true))

-- What a search finds, seen from the place `here`. The place of a cause is not described.
abbrev pub IsFound : {State Msg : Type 0} → Rules State Msg → List Event → ℕ → Sought
    → Result ℕ SeekError → Type 0
IsFound r events here sought.Cause = IsAnswer (λ _. ⊤) ⊤
IsFound r events here (sought.At time) =
    FindsFirst (is_met_at r (sought.At time) events) (length events + 1)
IsFound r events here (sought.First c) =
    FindsFirst (is_met_at r (sought.First c) events) (length events + 1)
IsFound r events here (sought.Last host) =
    FindsLast (is_met_at r (sought.Last host) events) here
IsFound r events here (sought.Held c) =
    FindsLastBefore (is_met_at r (sought.Held c) events) here

-- what is found of the first places of a run
pub record IsSpan (test : ℕ → Bool) (end : ℕ) (span : Span) : Type 0 where
  pub first : OnFirst test end span.first
  pub last : OnLast test end span.last
