-- The account of a turn: the lines of the events that it passed.
use Rattle.std.specs.Prelude.{◌≡◌, ℕ, ◌+◌, ◌-◌, ◌≤◌, nat_lt, min, false, List, [], length}
use Rattle.std.specs.Prelude.{Result, Ok, Err, if◌then◌else◌}
use Rattle.sim_events.specs.declared.Event.{Event}
use Rattle.sim_world.specs.Events.{Rules}
use Rattle.sim_book.specs.declared.Entry.{Entry}
use Rattle.sim_book.specs.declared.NotTaken.{NotTaken}
use Rattle.sim_book.specs.declared.Reply.{Reply}
use Rattle.sim_book.specs.declared.Reply.TheVariants.{Moved}
use Rattle.sim_script.specs.Script.{Text}
use Rattle.sim_log.specs.Lines.{AreLines}

abbrev pub most_told : ℕ
most_told = 20

-- the number of lines in the account of a way: one for each event that it passes, at most 20; for a
-- way back, one for the next event
abbrev pub told_count : ℕ → ℕ → ℕ
told_count from to = if nat_lt to from then 1 else min most_told (to - from)

module _ {State Msg : Type 0} (r : Rules State Msg) where
  -- The account of the way of a branch from one place to another: a line in words for each event
  -- that it passes, at most 20; for a way back, the line of the next event.
  abbrev pub IsAccount : ℕ → List Event → ℕ → Text → Type 0
  IsAccount from events to told =
      AreLines r events false (min from to + 1) (told_count from to) told

  -- the account of a reply: of the way to the place that it names, or nothing
  abbrev pub AccountsFor : ℕ → List Event → Reply → Text → Type 0
  AccountsFor from events (Moved place clock why) told = IsAccount from events place told
  AccountsFor from events _ told = told ≡ []

  -- the account of a turn; it is empty if the turn was not taken
  abbrev pub Accounts : ℕ → List Event → Result Entry NotTaken → Text → Type 0
  Accounts from events (Ok e) told = AccountsFor from events e.reply told
  Accounts from events (Err why) told = told ≡ []

-- the place that a reply names, if any, is within the run of these events
abbrev pub IsWithinBy : Reply → List Event → Type 0
IsWithinBy (Moved place clock why) events = place ≤ length events
IsWithinBy _ events = Unit {0}

abbrev pub IsWithin : Result Entry NotTaken → List Event → Type 0
IsWithin (Ok e) events = IsWithinBy e.reply events
IsWithin (Err why) events = Unit {0}
