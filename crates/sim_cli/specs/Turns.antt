-- The turns of a play: each answers a command, or memory is wanted, or the history is full.
use Rattle.std.specs.Prelude.{◌≡◌, ℕ, ◌+◌, ◌<◌, ◌≤◌, nat_lt, length, Result, Ok, Err, if◌then◌else◌}
use Rattle.sim_world.specs.Events.{Rules}
use Rattle.sim_watch.specs.declared.command.Command.{Command}
use Rattle.sim_book.specs.declared.Entry.{Entry}
use Rattle.sim_book.specs.declared.NotTaken.{NotTaken}
use Rattle.sim_book.specs.declared.NotTaken.TheVariants.{HistoryFull, NoMemory}
use Rattle.sim_book.specs.Book.{Book, opening}
use Rattle.sim_book.specs.Answer.{after}
use Rattle.sim_book.specs.History.{IsTurn}
use Rattle.sim_book.specs.Kept.{BookView, all_shown}

-- branches     the book's branches
-- taken        the number of kept entries
pub record Course : Type 0 where
  pub branches : Book
  pub taken : ℕ

abbrev pub most_entries : ℕ
most_entries = 65536

-- the session of a play
abbrev pub session : ℕ
session = 0

-- the opening book, and no entry
abbrev pub beginning : Course
beginning = record { branches = opening; taken = 0 }

-- the course that a book has reached
abbrev pub course_of : BookView → Course
course_of book = record { branches = all_shown book.kept; taken = length book.history }

module _ {State Msg : Type 0} (r : Rules State Msg) where
  -- A command is taken: its entry is kept and records a turn. Or it is not taken, because 65,536
  -- entries are kept or memory is wanted, and nothing changes.
  abbrev pub Takes : Course → Command → Result Entry NotTaken → Course → Type 0
  Takes old c (Ok e) new =
      (old.taken < most_entries) × (new.taken ≡ old.taken + 1) × (e.session ≡ session)
      × (e.command ≡ c)
      × IsTurn r old.branches c e.reply new.branches
  Takes old c (Err HistoryFull) new = (most_entries ≤ old.taken) × (new ≡ old)
  Takes old c (Err NoMemory) new = (old.taken < most_entries) × (new ≡ old)

  -- the course after a command if memory suffices
  abbrev pub course_after : Course → Command → Course
  course_after old c =
      if nat_lt old.taken most_entries
      then record { branches = after r old.branches c; taken = old.taken + 1 }
      else old
