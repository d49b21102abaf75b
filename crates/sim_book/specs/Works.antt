-- The work of a command: the turns, copies and undos of nodes that the book's meter counts.
use Rattle.std.specs.Prelude.{◌≡◌, ℕ, ◌+◌, ◌-◌, ◌<◌, ◌≤◌, false, List, length}
use Rattle.std.specs.Prelude.{slice_index_or, IsTrue}
use Rattle.sim_node.specs.Node.{NodeLaws}
use Rattle.sim_node.specs.Work.{Work}
use Rattle.sim_events.specs.declared.Event.TheVariants as event
use Rattle.sim_world.specs.Events.{Rules, rules}
use Rattle.sim_moves.specs.Works.{OnlyTurns, Plays}
use Rattle.sim_tape.specs.Tape.{Tape, is_within_reach, is_near_ahead, reach_here}
use Rattle.sim_tape.specs.Works.{TakesAtMost, nodes_below, nodes_at_end}
use Rattle.sim_runs.specs.Works.{TakesBack, Adds, Looks, UndoesAtMost}
use Rattle.sim_watch.specs.declared.command.Command.{Command}
use Rattle.sim_watch.specs.declared.command.Command.TheVariants as command
use Rattle.sim_book.specs.declared.Refusal.{Refusal}
use Rattle.sim_book.specs.declared.Refusal.TheVariants as refusal
use Rattle.sim_book.specs.declared.Reply.{Reply}
use Rattle.sim_book.specs.declared.Reply.TheVariants as reply
use Rattle.sim_watch.specs.Commands.{branch_of}
use Rattle.sim_book.specs.Kept.{Kept}

module _ {State Msg : Type 0} (r : Rules State Msg) where
  -- the work to make a world again: fewer turns than the interval, and one copy of a checkpoint
  abbrev pub Renews : ℕ → Tape → Work → Work → Type 0
  Renews p t old new = Plays (r.scenario.interval - 1) (nodes_below r p t.events) old new

  -- the work to make the world at a tape's place, if the tape is cold
  abbrev pub Warms : Tape → Work → Work → Type 0
  Warms t old new = (IsTrue t.warm → new ≡ old) × (t.warm ≡ false → Renews t.place t old new)

  -- first the world is made, if the tape is cold, and then this work is done
  pub record WarmsAnd (work : Work → Work → Type 0) (t : Tape) (old new : Work) : Type 0 where
    pub made : Work
    pub first : Warms t old made
    pub last : work made new

  -- the work of a jump to a place: fewer turns than the interval, and at most one copy of a
  -- checkpoint
  abbrev pub Jumps : ℕ → Tape → Work → Work → Type 0
  Jumps p t old new = TakesAtMost (r.scenario.interval - 1) (nodes_below r p t.events) old new

  -- A command that moves the place. On a cold tape a step, a run, a tick, a fault and a rewind
  -- first make the world. Then an added event takes at most one turn. A walk back within the reach
  -- takes no turn and no copy. A walk forward, and a goto a short way ahead, take at most a turn an
  -- event, and nothing else. Any other jump makes the world again, by one copy of a world and fewer
  -- turns than the interval, and undoes nothing. A rewind past the reach undoes at most what lies
  -- within it, and goes through the stretches that it passes.
  abbrev pub MovesBy : Command → Tape → Tape → Work → Work → Type 0
  MovesBy (command.Step b) t u old new = WarmsAnd (Plays 1 (nodes_at_end r event.Step t)) t old new
  MovesBy (command.Fault b f) t u old new =
      WarmsAnd (Plays 1 (nodes_at_end r (event.Fault f) t)) t old new
  MovesBy (command.Run b n) t u old new =
      WarmsAnd (Adds r (length u.events - length t.events) u.events) t old new
  MovesBy (command.Tick b) t u old new =
      WarmsAnd (Adds r (length u.events - length t.events) u.events) t old new
  MovesBy (command.Back b n) t u old new =
      (IsTrue t.warm → n ≤ t.reach → TakesBack r n (t.place - n) t old new)
      × Jumps (t.place - n) t old new
      × (is_within_reach (t.place - n) t ≡ false → Renews (t.place - n) t old new)
  MovesBy (command.Goto b p) t u old new =
      (IsTrue (is_within_reach p t) → TakesBack r (t.place - p) p t old new)
      × (IsTrue (is_near_ahead p t) → OnlyTurns (p - t.place) old new)
      × Jumps p t old new
      × (is_within_reach p t ≡ false → is_near_ahead p t ≡ false → Renews p t old new)
  MovesBy (command.Forward b n) t u old new =
      (IsTrue t.warm → OnlyTurns n old new) × (t.warm ≡ false → Renews (t.place + n) t old new)
  MovesBy (command.Rewind b n) t u old new =
      WarmsAnd (λ made last.
      (t.place - u.place ≤ reach_here t → TakesBack r (t.place - u.place) u.place t made last)
      × Looks r u.place (t.place - reach_here t) t made last
      × UndoesAtMost r (reach_here t) t made last) t old new
  MovesBy (command.Cut b) t u old new = new ≡ old
  MovesBy _ t u old new = Unit {0}

  -- After want of memory nothing is known. `Idle` is found on a warm tape; no other refusal takes
  -- any work.
  abbrev pub RefusesBy : Refusal → Tape → Work → Work → Type 0
  RefusesBy refusal.NoMemory t old new = Unit {0}
  RefusesBy refusal.Idle t old new = Warms t old new
  RefusesBy _ t old new = new ≡ old

  abbrev pub WorksBy : Command → Reply → Tape → Tape → Work → Work → Type 0
  WorksBy c (reply.Moved place clock why) t u old new = MovesBy c t u old new
  WorksBy c (reply.Seen place view) t u old new = Warms t old new
  WorksBy c (reply.Refused why) t u old new = RefusesBy why t old new
  WorksBy c (reply.Made n) t u old new = new ≡ old
  WorksBy c (reply.Dropped n) t u old new = new ≡ old
  WorksBy c (reply.Frozen list) t u old new = new ≡ old

module _ {State Msg : Type 0} (node : NodeLaws State Msg) (probes : ℕ) where
  -- the work of a command on tape t, which becomes u
  abbrev pub Works : Command → Reply → Tape → Tape → Work → Work → Type 0
  Works c given t u old new = WorksBy (rules node probes t.scenario) c given t u old new

  -- the work of a command of a book: that on the tape of its branch, and none if there is no such
  -- branch
  pub record TakesWork (c : Command) (given : Reply) (kept kept' : List Kept)
      (old new : Work) : Type 0 where
    pub own : (d : Kept) → branch_of c < length kept
        → Works c given (slice_index_or kept (branch_of c) d).tape
        (slice_index_or kept' (branch_of c) d).tape old new
    pub none : length kept ≤ branch_of c → new ≡ old
