-- The lines of a log.
use Rattle.std.specs.Prelude.{◌≡◌, ℕ, zero, suc, ◌+◌, Bool, true, false, List, [], ◌++◌, codes}
use Rattle.std.specs.Prelude.{take, Some}
use Rattle.std.specs.Fmt.{decimal}
use Rattle.sim_events.specs.declared.Event.{Event}
use Rattle.sim_world.specs.World.{World}
use Rattle.sim_world.specs.Events.{Rules, run}
use Rattle.sim_tape.specs.Tape.{Tape, at, with_world}
use Rattle.sim_script.specs.Script.{Text}

-- the line of an event in words: the place after it, the clock there (ms), and what happened
abbrev pub word_line : ℕ → ℕ → Text → Text
word_line place clock words =
    decimal place ++ codes " clock " ++ decimal clock ++ codes ": " ++ words ++ codes "\n"

-- No contract names the words: `Debug` shows messages and states.
abbrev pub IsWordLine : ℕ → ℕ → Text → Type 0
IsWordLine place clock line = (words : Text) × (line ≡ word_line place clock words)

abbrev pub IsObjectLine : Text → Type 0
IsObjectLine line = (object : Text) × (line ≡ object ++ codes "\n")

-- the line of an event, as JSON or in words
abbrev pub IsTold : Bool → ℕ → ℕ → Text → Type 0
IsTold true place clock line = IsObjectLine line
IsTold false place clock line = IsWordLine place clock line

-- the tape went past its next event and is warm
abbrev pub IsPast : Tape → Tape → Type 0
IsPast old new = new ≡ with_world true new.reach (at (old.place + 1) old)

-- A run has these rules and these events.
module _ {State Msg : Type 0} (r : Rules State Msg) (events : List Event) (json : Bool) where
  -- the line of the event that leads to a place, with the clock of the world there
  pub record IsLine (place : ℕ) (line : Text) : Type 0 where
    pub world : World State Msg
    pub led : run r (take place events) ≡ Some world
    pub told : IsTold json place world.clock line

  -- adds the line of a place to a text
  abbrev pub AddsLine : ℕ → Text → Text → Type 0
  AddsLine place old new = (line : Text) × (new ≡ old ++ line) × IsLine place line

  -- the lines of `count` events, from the one that leads to place `first` on
  abbrev pub AreLines : ℕ → ℕ → Text → Type 0
  AreLines first zero text = text ≡ []
  AreLines first (suc count) text =
      (before : Text) × AreLines first count before × AddsLine (first + count) before text
