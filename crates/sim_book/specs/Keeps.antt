-- What a command does to the warmth and the reach of its branch's tape.
use Rattle.std.specs.Prelude.{◌≡◌, ℕ, ◌+◌, ◌-◌, ◌<◌, ◌≢◌, min, Bool, true, false, List, length}
use Rattle.std.specs.Prelude.{slice_index_or, IsTrue}
use Rattle.sim_node.specs.Node.{NodeLaws}
use Rattle.sim_events.specs.Scenario.{Scenario}
use Rattle.sim_world.specs.Events.{rules}
use Rattle.sim_tape.specs.Tape.{Tape, raised, reach_at, reach_here}
use Rattle.sim_tape.specs.Places.{world_of}
use Rattle.sim_watch.specs.declared.command.Command.{Command}
use Rattle.sim_watch.specs.declared.command.Command.TheVariants as command
use Rattle.sim_book.specs.declared.Refusal.{Refusal}
use Rattle.sim_book.specs.declared.Refusal.TheVariants as refusal
use Rattle.sim_book.specs.declared.Reply.{Reply}
use Rattle.sim_book.specs.declared.Reply.TheVariants as reply
use Rattle.sim_watch.specs.Commands.{branch_of}
use Rattle.sim_runs.specs.Runs.{is_idle}
use Rattle.sim_runs.specs.Reach.{reach_rewound}
use Rattle.sim_book.specs.Answer.{answer}
use Rattle.sim_book.specs.Kept.{Kept, all_shown}

-- The reach after a command that moves the place. It rises by one for each event added or walked
-- forward, up to the window, and falls by one for each event walked back within the reach. On a
-- cold tape a step, a fault, a run, a tick and a rewind first make the world at the place. After
-- any other jump the reach is that of the way there.
abbrev pub Moves : Command → Tape → Tape → Type 0
Moves (command.Step b) t u = IsTrue u.warm × (u.reach ≡ min t.scenario.window (reach_here t + 1))
Moves (command.Fault b f) t u = IsTrue u.warm × (u.reach ≡ min t.scenario.window (reach_here t + 1))
Moves (command.Back b n) t u = IsTrue u.warm × (u.reach ≡ reach_at (t.place - n) t)
Moves (command.Forward b n) t u =
    IsTrue u.warm × (IsTrue t.warm → u.reach ≡ raised n t)
    × (t.warm ≡ false → u.reach ≡ reach_at (t.place + n) t)
Moves (command.Goto b p) t u = IsTrue u.warm × (u.reach ≡ reach_at p t)
Moves (command.Run b n) t u =
    IsTrue u.warm
    × (u.reach ≡ min t.scenario.window (reach_here t + (length u.events - length t.events)))
Moves (command.Tick b) t u =
    IsTrue u.warm
    × (u.reach ≡ min t.scenario.window (reach_here t + (length u.events - length t.events)))
Moves (command.Rewind b n) t u =
    IsTrue u.warm × (u.reach ≡ reach_rewound (t.place - n) u.place t)
Moves (command.Cut b) t u = (u.warm ≡ t.warm) × (u.reach ≡ t.reach)
Moves _ t u = Unit {0}

-- a command whose reply can be a list of events
abbrev pub is_freeze : Command → Bool
is_freeze (command.Freeze b) = true
is_freeze _ = false

module _ {State Msg : Type 0} (node : NodeLaws State Msg) (probes : ℕ) where
  -- When memory can be wanted: for a step or a run on a warm tape, only if something is pending;
  -- for a look, a run of no step, and a move to the tape's own place, only on a cold tape.
  abbrev pub Wants : Command → Tape → Type 0
  Wants (command.Step b) t =
      IsTrue t.warm → is_idle (world_of (rules node probes t.scenario) t) ≡ false
  Wants (command.Run b n) t =
      (IsTrue t.warm → is_idle (world_of (rules node probes t.scenario) t) ≡ false)
      × (n ≡ 0 → t.warm ≡ false)
  Wants (command.Back b n) t = n ≡ 0 → t.warm ≡ false
  Wants (command.Forward b n) t = n ≡ 0 → t.warm ≡ false
  Wants (command.Goto b p) t = p ≡ t.place → t.warm ≡ false
  Wants (command.Rewind b n) t = n ≡ 0 → t.warm ≡ false
  Wants (command.Look b q) t = t.warm ≡ false
  Wants _ t = Unit {0}

  -- A refusal other than `NoMemory` and `Idle` leaves a tape as it is, warm or cold. `Idle` leaves
  -- a warm tape as it is, and makes a cold one warm.
  abbrev pub Refuses : Refusal → Command → Tape → Tape → Type 0
  Refuses refusal.NoMemory c t u = Wants c t
  Refuses refusal.Idle c t u = IsTrue t.warm → u ≡ t
  Refuses _ c t u = u ≡ t

  abbrev pub Keeps : Command → Reply → Tape → Tape → Type 0
  Keeps c (reply.Moved place clock why) t u = Moves c t u
  Keeps c (reply.Seen place view) t u = IsTrue u.warm × (IsTrue t.warm → u ≡ t)
  Keeps c (reply.Refused why) t u = Refuses why c t u
  Keeps c (reply.Made n) t u = u ≡ t
  Keeps c (reply.Dropped n) t u = u ≡ t
  Keeps c (reply.Frozen list) t u = IsTrue (is_freeze c) × (u ≡ t)

  -- of a book's tapes only that of the command's branch changes, in this way
  pub record KeepsTapes (c : Command) (given : Reply) (old new : List Kept) : Type 0 where
    pub others : (i : ℕ) (d : Kept) → i < length old → i ≢ branch_of c
        → slice_index_or new i d ≡ slice_index_or old i d
    pub own : (d : Kept) → branch_of c < length old
        → Keeps c given (slice_index_or old (branch_of c) d).tape
        (slice_index_or new (branch_of c) d).tape

  -- the reply to a step or a run on a warm branch with nothing pending says so
  abbrev pub TellsIdle : Scenario → Command → Reply → List Kept → Type 0
  TellsIdle s c given kept =
      (d : Kept) → branch_of c < length kept
      → IsTrue (slice_index_or kept (branch_of c) d).tape.warm
      → answer (rules node probes s) (all_shown kept) c ≡ reply.Refused refusal.Idle
      → given ≡ reply.Refused refusal.Idle
