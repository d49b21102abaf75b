-- The headline. A branch keeps its events and a place among them, and no world: its world is the
-- run of these events, from the start of the scenario up to the place. The world that a book lends
-- of a branch is that one, however the place was reached: forwards, back or by a jump.
use Rattle.std.specs.Prelude.{◌≡◌, ℕ, ◌≤◌, Bool, true, false, List, ◌++◌, length, take, Option}
use Rattle.std.specs.Prelude.{Some, None, slice_get, IsTrue}
use Rattle.std.specs.Option.{unwrap_or, option_map}
use Rattle.std.specs.List.{All}
use Rattle.sim_events.specs.Scenario.{Scenario}
use Rattle.sim_world.specs.World.{World}
use Rattle.sim_world.specs.Events.{Rules, run}
use Rattle.sim_watch.specs.declared.command.Command.{Command}
use Rattle.sim_watch.specs.declared.command.Command.TheVariants as command
use Rattle.sim_runs.specs.Branch.{Branch, world_at}
use Rattle.sim_book.specs.Book.{Book, IsBranch, branch}
use Rattle.sim_watch.specs.Commands.{branch_of}
use Rattle.sim_book.specs.Answer.{after, refusal_of}
use Rattle.sim_runs.specs.Runs.{steps, after_steps, run_len, tick_steps}
use Rattle.sim_book.specs.Kept.{Kept}

-- there is such a branch, and its tape is warm
abbrev pub is_warm : ℕ → List Kept → Bool
is_warm b kept = unwrap_or (option_map (λ k. k.tape.warm) (slice_get kept b)) false

-- each tape is of this scenario
abbrev pub AreOf : Scenario → List Kept → Type 0
AreOf s kept = All (λ k. k.tape.scenario ≡ s) kept

-- a command that adds one event
abbrev pub adds_one : Command → Bool
adds_one (command.Step b) = true
adds_one (command.Fault b f) = true
adds_one _ = false

module _ {State Msg : Type 0} (r : Rules State Msg) where
  -- the world of a branch: the run of its events up to its place
  abbrev pub world_by_run : Branch → Option (World State Msg)
  world_by_run x = run r (take x.place x.events)

  abbrev pub IsWorldOf : Branch → World State Msg → Type 0
  IsWorldOf x w = world_by_run x ≡ Some w

  -- Each branch's events can happen in order, so it has a world; its place is among them; it has
  -- eight watches.
  abbrev pub AreBranches : Book → Type 0
  AreBranches book = All (IsBranch r) book

  -- Each place of each branch has a world, the one of which the answers speak. It is never the
  -- start for want of a run.
  abbrev pub HasWorlds : Book → Type 0
  HasWorlds book = All (λ x. (p : ℕ) → p ≤ length x.events
      → run r (take p x.events) ≡ Some (world_at r p x)) book

  -- the most steps past the end of a branch of which an answer speaks
  abbrev pub steps_ahead : Command → Branch → ℕ
  steps_ahead (command.Run b n) x = run_len r n x
  steps_ahead (command.Tick b) x = unwrap_or (tick_steps r x) 1024
  steps_ahead _ x = 0

  -- So has each number of further steps that a run or a tick looks at.
  abbrev pub HasStepWorlds : Book → Type 0
  HasStepWorlds book = (c : Command) (k : ℕ) → refusal_of r c book ≡ None →
      let x = branch (branch_of c) book in
      k ≤ steps_ahead c x → run r (x.events ++ steps k) ≡ Some (after_steps r k x)

  -- An added event and then a Back by one lead to the world before the event.
  abbrev pub BackAfterEvent : Book → Type 0
  BackAfterEvent book = (c : Command) → IsTrue (adds_one c) → refusal_of r c book ≡ None →
      let b = branch_of c in
      world_by_run (branch b (after r (after r book c) (command.Back b 1)))
      ≡ world_by_run (branch b book)

  -- A Back by n and then a Forward by n lead to the world that was left.
  abbrev pub ForwardAfterBack : Book → Type 0
  ForwardAfterBack book = (b n : ℕ) → refusal_of r (command.Back b n) book ≡ None →
      world_by_run (branch b (after r (after r book (command.Back b n)) (command.Forward b n)))
      ≡ world_by_run (branch b book)
