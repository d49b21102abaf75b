-- The progress of a run, a tick or a rewind.
use Rattle.std.specs.Prelude.{◌≡◌, ℕ, ◌+◌, ◌-◌, ◌*◌, ◌/◌, ◌%◌, ◌<◌, ◌≤◌, min, true, List, []}
use Rattle.std.specs.Prelude.{Option, Some, None, length}
use Rattle.sim_node.specs.Node.{NodeLaws}
use Rattle.sim_node.specs.Work.{Work}
use Rattle.sim_events.specs.declared.Event.{Event}
use Rattle.sim_events.specs.declared.Event.TheVariants as event
use Rattle.sim_world.specs.Events.{Rules, rules, refusal_of}
use Rattle.sim_tape.specs.Tape.{Tape, with_world, at}
use Rattle.sim_tape.specs.Places.{world_of}
use Rattle.sim_tape.specs.Works.{TakesAtMost}
use Rattle.sim_runs.specs.Tapes.{lengthened}
use Rattle.sim_runs.specs.Works.{stretches, nodes_from}
use Rattle.sim_watch.specs.Condition.{Cond}
use Rattle.sim_runs.specs.declared.rewinds.Found.{Found}
use Rattle.sim_runs.specs.declared.Stop.{Stop}
use Rattle.sim_runs.specs.declared.Stop.TheVariants as stop
use Rattle.sim_runs.specs.Branch.{branch_with}
use Rattle.sim_runs.specs.Runs.{steps, is_due_by, after_steps, run_stop_at, failing_at}

-- where a rewind down to `low` ends: at the failure found, or at `low`
abbrev pub place_found : ℕ → Option Found → ℕ
place_found low (Some found) = found.place
place_found low None = low

-- why a rewind stops
abbrev pub stop_found : Option Found → Stop
stop_found (Some found) = stop.Watch found.watch
stop_found None = stop.Asked

-- the failure at a place: the watch that fails there, if any
abbrev pub found_at : ℕ → Option ℕ → Option Found
found_at p (Some watch) = Some (record { place = p; watch = watch })
found_at p None = None

module _ {State Msg : Type 0} (node : NodeLaws State Msg) (probes : ℕ) where
  -- A run of n steps that began at tape t has added k steps, which led to tape u, and did not have
  -- to stop.
  pub record IsRunning (n : ℕ) (watches : List (Option Cond)) (t : Tape) (k : ℕ)
      (u : Tape) : Type 0 where
    pub new : u ≡ with_world true u.reach (lengthened (steps k) t)
    pub before : (j : ℕ) → 1 ≤ j → j ≤ k
        → run_stop_at (rules node probes t.scenario) n (branch_with watches t) j ≡ None
    pub room : length u.events < 65536
    pub can : refusal_of (rules node probes u.scenario) event.Step
        (world_of (rules node probes u.scenario) u) ≡ None
    pub reach : u.reach ≡ min t.scenario.window (t.reach + k)

  -- A tick that began at tape t has added k steps, which led to tape u, and before each of them
  -- something was due by the tick's end.
  pub record IsTicking (end : ℕ) (t : Tape) (k : ℕ) (u : Tape) : Type 0 where
    pub new : u ≡ with_world true u.reach (lengthened (steps k) t)
    pub before : (j : ℕ) → j < k
        → is_due_by end (after_steps (rules node probes t.scenario) j (branch_with [] t)) ≡ true
    pub on : (world_of (rules node probes t.scenario) t).clock ≤
        (world_of (rules node probes u.scenario) u).clock
    pub within : (world_of (rules node probes u.scenario) u).clock ≤ end
    pub reach : u.reach ≡ min t.scenario.window (t.reach + k)

  -- no watch fails at a place from `low` on, below `high`
  abbrev pub NoneFails : List (Option Cond) → Tape → ℕ → ℕ → Type 0
  NoneFails watches t low high =
      (p : ℕ) → low ≤ p → p < high
      → failing_at (rules node probes t.scenario) (branch_with watches t) p ≡ None

  -- the last place from `low` on, below `high`, at which a watch fails, and the lowest watch that
  -- fails there
  pub record FailsLast (watches : List (Option Cond)) (t : Tape) (low high : ℕ)
      (found : Found) : Type 0 where
    pub from : low ≤ found.place
    pub below : found.place < high
    pub fails : failing_at (rules node probes t.scenario) (branch_with watches t) found.place ≡
        Some found.watch
    pub after : NoneFails watches t (found.place + 1) high

  -- the last failure, or that no watch fails
  abbrev pub IsLast : List (Option Cond) → Tape → ℕ → ℕ → Option Found → Type 0
  IsLast watches t low high None = NoneFails watches t low high
  IsLast watches t low high (Some found) = FailsLast watches t low high found

  -- A rewind that began at the warm tape t has undone k events within the reach, which led to tape
  -- u, and no watch failed.
  pub record IsRewinding (watches : List (Option Cond)) (t : Tape) (k : ℕ) (u : Tape) : Type 0 where
    pub new : u ≡ with_world true u.reach (at (t.place - k) t)
    pub none : NoneFails watches t (t.place - k) t.place
    pub reach : u.reach ≡ t.reach - k

  -- A walk over a stretch, from the place of the warm tape t, has passed k events, which led to
  -- tape u, with `last` as its last failure.
  pub record IsLooking (watches : List (Option Cond)) (t : Tape) (k : ℕ) (last : Option Found)
      (u : Tape) : Type 0 where
    pub new : u ≡ with_world true u.reach (at (t.place + k) t)
    pub found : IsLast watches t t.place (t.place + k + 1) last

  -- A rewind that began at the warm tape t has tested the places down to `high`, the tape is now u,
  -- and no watch failed.
  pub record IsPast (watches : List (Option Cond)) (t : Tape) (low high : ℕ)
      (u : Tape) : Type 0 where
    pub new : u ≡ with_world true u.reach (at u.place t)
    pub ahead : high ≤ u.place
    pub from : low ≤ high
    pub below : high ≤ t.place
    pub none : NoneFails watches t high t.place

-- The places below `top` were tested down to `high`, with this work. Above `to` each stretch begins
-- at a checkpoint.
pub record IsLooked {State Msg : Type 0} (r : Rules State Msg) (to high top : ℕ)
    (events : List Event) (old new : Work) : Type 0 where
  pub whole : high < top → to < high → high % r.scenario.interval ≡ 0
  pub work :
      TakesAtMost (stretches r high top * (r.scenario.interval - 1))
      (nodes_from r (high / r.scenario.interval) (stretches r high top) events) old new
