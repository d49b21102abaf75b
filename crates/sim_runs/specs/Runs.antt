-- How far a run, a tick and a rewind go, and why they stop.
use Rattle.std.specs.Prelude.{ℕ, ◌+◌, ◌-◌, ◌==◌, nat_le, min, Bool, true, false, not, ◌||◌, List}
use Rattle.std.specs.Prelude.{[], ◌∷◌, ◌++◌, length, take, drop, Option, Some, None, is_some}
use Rattle.std.specs.Prelude.{replicate, if◌then◌else◌}
use Rattle.std.specs.Option.{unwrap_or, option_map}
use Rattle.std.specs.List.{list_all, list_any}
use Rattle.sim_node.specs.Numbers.{least}
use Rattle.sim_queue.specs.Pending.{first}
use Rattle.sim_events.specs.declared.Event.{Event}
use Rattle.sim_events.specs.declared.Event.TheVariants as event
use Rattle.sim_world.specs.World.{World}
use Rattle.sim_world.specs.Events.{Rules, run, start}
use Rattle.sim_watch.specs.Condition.{Cond}
use Rattle.sim_runs.specs.declared.Stop.{Stop}
use Rattle.sim_runs.specs.declared.Stop.TheVariants as stop
use Rattle.sim_runs.specs.Branch.{Branch, with_events, world_at, world_of}
use Rattle.sim_runs.specs.Watches.{failing_watch}

abbrev pub most_events : ℕ
most_events = 65536

-- nothing is pending
abbrev pub is_idle : {State Msg : Type 0} → World State Msg → Bool
is_idle w = not (is_some (first w.queue.items))

-- something is due at or before time t
abbrev pub is_due_by : {State Msg : Type 0} → ℕ → World State Msg → Bool
is_due_by t w = list_any (λ x. nat_le x.due t) w.queue.items

abbrev pub steps : ℕ → List Event
steps k = replicate k event.Step

-- k steps and an advance, or more steps than a tick may add
abbrev pub tick_events_by : ℕ → Option ℕ → List Event
tick_events_by end (Some k) = steps k ++ event.Advance end ∷ []
tick_events_by end None = steps 1025

-- The first reason to stop a run, if any: a watch fails, all clients are done, all steps asked for
-- were added, the branch is full, nothing is pending
abbrev pub first_stop : Option ℕ → Bool → Bool → Bool → Bool → Option Stop
first_stop (Some watch) done asked full idle = Some (stop.Watch watch)
first_stop None true asked full idle = Some stop.AllDone
first_stop None false true full idle = Some stop.Asked
first_stop None false false true idle = Some stop.Full
first_stop None false false false true = Some stop.Idle
first_stop None false false false false = None

-- Why a tick stops: it reached its time, and all clients are done or not; or it did not, and the
-- branch is full or not
abbrev pub tick_stop_by : Bool → Bool → Bool → Stop
tick_stop_by true true full = stop.AllDone
tick_stop_by true false full = stop.Asked
tick_stop_by false done true = stop.Full
tick_stop_by false done false = stop.Long

-- the events to add, and why no more
pub record Addition : Type 0 where
  pub events : List Event
  pub stop : Stop

-- the place to go to, and why to stop there
pub record Move : Type 0 where
  pub place : ℕ
  pub stop : Stop

module _ {State Msg : Type 0} (r : Rules State Msg) where
  -- all clients are done
  abbrev pub all_done : World State Msg → Bool
  all_done w = list_all (λ h. h.done) (drop r.scenario.setup.servers w.hosts)

  -- the world after k more steps at the end of a branch
  abbrev pub after_steps : ℕ → Branch → World State Msg
  after_steps k x = unwrap_or (run r (x.events ++ steps k)) (start r)

  -- A run of at most n steps adds k, the least number from 1 on at which it stops: a watch fails,
  -- all clients are done, n are added, the branch is full, or nothing is pending. The stop is the
  -- first of these. `run_stop` gives it for a number of kept events; `asked` says whether all n
  -- were added.
  abbrev pub run_stop : Bool → List (Option Cond) → ℕ → World State Msg → Option Stop
  run_stop asked watches kept w =
      first_stop (failing_watch r watches w) (all_done w) asked (nat_le most_events kept)
      (is_idle w)

  abbrev pub run_stop_at : ℕ → Branch → ℕ → Option Stop
  run_stop_at n x k = run_stop (k == n) x.watches (length x.events + k) (after_steps k x)

  abbrev pub run_len : ℕ → Branch → ℕ
  run_len n x = unwrap_or (least (λ k. is_some (run_stop_at n x k)) 1 n) 0

  abbrev pub run_addition : ℕ → Branch → Addition
  run_addition n x = record {
    events = steps (run_len n x);
    stop = if n == 0 then stop.Asked else unwrap_or (run_stop_at n x (run_len n x)) stop.Asked;
  }

  -- A tick ends one tick after the present clock. Its events are j steps, j being the least number
  -- after which nothing is due by then, and an advance. If no j up to 1024 serves, they are 1025
  -- steps. It adds the first of these events: at most 1024, and no more than the branch has room
  -- for.
  abbrev pub tick_end : Branch → ℕ
  tick_end x = (world_of r x).clock + r.scenario.tick

  abbrev pub tick_steps : Branch → Option ℕ
  tick_steps x = least (λ j. not (is_due_by (tick_end x) (after_steps j x))) 0 1024

  abbrev pub tick_events : Branch → List Event
  tick_events x = tick_events_by (tick_end x) (tick_steps x)

  abbrev pub tick_room : Branch → ℕ
  tick_room x = min 1024 (most_events - length x.events)

  abbrev pub tick_stop : Branch → List Event → Stop
  tick_stop x added = tick_stop_by (length added == length (tick_events x))
      (all_done (world_of r (with_events added x)))
      (length x.events + length added == most_events)

  abbrev pub tick_addition : Branch → Addition
  tick_addition x =
      let added = take (tick_room x) (tick_events x) in
      record { events = added; stop = tick_stop x added }

  -- A rewind of at most n events goes back by k, the least number from 1 on after which a watch
  -- fails, or else by n.
  abbrev pub failing_at : Branch → ℕ → Option ℕ
  failing_at x p = failing_watch r x.watches (world_at r p x)

  abbrev pub rewind_len : ℕ → Branch → ℕ
  rewind_len n x = unwrap_or (least (λ k. is_some (failing_at x (x.place - k)) || (k == n)) 1 n) 0

  abbrev pub rewind_move : ℕ → Branch → Move
  rewind_move n x =
      record {
        place = x.place - rewind_len n x;
        stop = if n == 0 then stop.Asked
            else unwrap_or (option_map stop.Watch (failing_at x (x.place - rewind_len n x)))
            stop.Asked;
      }
