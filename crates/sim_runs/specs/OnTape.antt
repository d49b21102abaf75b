-- What a tick, a run and a rewind do to a tape: the events that they add, or the place to which
-- they go.
use Rattle.std.specs.Prelude.{◌≡◌, ℕ, true, List, [], Option}
use Rattle.sim_node.specs.Node.{NodeLaws}
use Rattle.sim_events.specs.declared.Event.{Event}
use Rattle.sim_events.specs.declared.Event.TheVariants as event
use Rattle.sim_events.specs.declared.Refusal.{Refusal}
use Rattle.sim_world.specs.World.{World}
use Rattle.sim_world.specs.Events.{rules, refusal_of}
use Rattle.sim_tape.specs.Tape.{Tape, with_world, at}
use Rattle.sim_tape.specs.Places.{world_of}
use Rattle.sim_watch.specs.Condition.{Cond}
use Rattle.sim_runs.specs.Tapes.{lengthened}
use Rattle.sim_runs.specs.Branch.{branch_with}
use Rattle.sim_runs.specs.Runs.{Addition, Move, tick_addition, run_addition, rewind_move}

-- tape u is t with events added at its end, warm, and at the new end
abbrev pub IsLengthened : List Event → Tape → Tape → Type 0
IsLengthened new t u = u ≡ with_world true u.reach (lengthened new t)

-- tape u is t with some events added at its end, warm or cold, and at the new end
abbrev pub HasGrown : Tape → Tape → Type 0
HasGrown t u = (more : List Event) × (u ≡ with_world u.warm u.reach (lengthened more t))

abbrev pub IsElsewhere : Tape → Tape → Type 0
IsElsewhere t u = (p : ℕ) × (u ≡ with_world u.warm u.reach (at p t))

module _ {State Msg : Type 0} (node : NodeLaws State Msg) (probes : ℕ) where
  -- the world at the place of a tape
  abbrev pub world_on : Tape → World State Msg
  world_on t = world_of (rules node probes t.scenario) t

  -- why no step can happen at the place of a tape, or none if one can
  abbrev pub step_refusal : Tape → Option Refusal
  step_refusal t = refusal_of (rules node probes t.scenario) event.Step (world_on t)

  -- the events that a tick adds to a tape; they do not depend on the watches
  abbrev pub tick_on : Tape → Addition
  tick_on t = tick_addition (rules node probes t.scenario) (branch_with [] t)

  -- the events that a run of at most n steps adds to a tape with these watches
  abbrev pub run_on : ℕ → List (Option Cond) → Tape → Addition
  run_on n watches t = run_addition (rules node probes t.scenario) n (branch_with watches t)

  -- where a rewind of at most n events goes on a tape with these watches
  abbrev pub rewind_on : ℕ → List (Option Cond) → Tape → Move
  rewind_on n watches t = rewind_move (rules node probes t.scenario) n (branch_with watches t)
