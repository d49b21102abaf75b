-- The bytes that are taken to read a line.
use Rattle.std.specs.Prelude.{◌≡◌, ℕ, List, [], ◌∷◌, ◌++◌, ◌<◌, ◌≤◌, length, Option, ◌⊎◌, Result}
use Rattle.std.specs.Prelude.{Ok, Err, Vec}
use Rattle.std.specs.Io.KnownBytes.{Consumes, IsAtEnd}
use Rattle.std.specs.Str.Lines.{lines}
use Rattle.sim_lines.specs.Cut.{whole_lines, head_of, Shows}
use Rattle.sim_lines.specs.Waiting.{Waiting, budget, IsUsedUp}
use Rattle.sim_lines.specs.declared.head.HeadError.{HeadError}
use Rattle.sim_lines.specs.declared.head.HeadError.TheVariants as faults
use Rattle.sim_lines.specs.declared.lines.NextLine.{NextLine}
use Rattle.sim_lines.specs.declared.lines.NextLine.TheVariants.{Line, Last, End, Failed, NoMemory}

-- these bytes are one line with its end, whatever bytes follow
pub record IsWholeLine (taken line : List ℕ) : Type 0 where
  pub all : (tail : List ℕ) → lines (taken ++ tail) ≡ line ∷ lines tail
  pub whole : (tail : List ℕ) → whole_lines (taken ++ tail) ≡ line ∷ whole_lines tail

-- these bytes are a line without a line end
pub record IsLastLine (taken line : List ℕ) : Type 0 where
  pub all : lines taken ≡ line ∷ []
  pub whole : whole_lines taken ≡ []

-- takes the first line of the remaining bytes, and shows it
pub record TakesLine (old new : Option (List ℕ)) (kept : List ℕ) : Type 0 where
  pub taken : List ℕ
  pub line : List ℕ
  pub consumed : Consumes old new taken
  pub shown : Shows kept line
  pub ends : IsWholeLine taken line

-- takes a last line without a line end, and shows it
pub record TakesLast (old new : Option (List ℕ)) (kept : List ℕ) : Type 0 where
  pub taken : List ℕ
  pub line : List ℕ
  pub consumed : Consumes old new taken
  pub shown : Shows kept line
  pub end : IsAtEnd new
  pub ends : IsLastLine taken line

-- takes a front without a line end
pub record TakesPart (old new : Option (List ℕ)) : Type 0 where
  pub taken : List ℕ
  pub consumed : Consumes old new taken
  pub whole : whole_lines taken ≡ []

abbrev pub TakesNext : Option (List ℕ) → Option (List ℕ) → List ℕ → NextLine → Type 0
TakesNext old new kept Line = TakesLine old new kept
TakesNext old new kept Last = TakesLast old new kept
TakesNext old new kept End = Consumes old new [] × IsAtEnd new
TakesNext old new kept Failed = TakesPart old new
TakesNext old new kept NoMemory = Unit {0}

-- how taking a line changes what waits: fewer bytes can still come, and none waits after the reader
-- failed
abbrev pub SpendsLine : Waiting → Waiting → NextLine → Type 0
SpendsLine old new Failed = IsUsedUp old new
SpendsLine old new _ = budget new < budget old

-- these bytes are the scenario's text and the marker line, whatever bytes follow
abbrev pub IsWholeHead : List ℕ → List ℕ → Type 0
IsWholeHead taken text = (tail : List ℕ) → head_of (taken ++ tail) ≡ (text, tail)

-- these bytes are the scenario's text, if the input ends after them
abbrev pub IsLastHead : List ℕ → List ℕ → Type 0
IsLastHead taken text = head_of taken ≡ (text, [])

-- these 65,600 bytes begin a scenario's text that is too long, whatever bytes follow
pub record IsLongHead (taken text : List ℕ) : Type 0 where
  pub at : length taken ≡ 65600
  pub read : 65536 < length text
  pub whole : (tail : List ℕ) → 65536 < length (head_of (taken ++ tail)).0

-- takes the scenario's text, or at most 65,600 bytes of one that is too long
pub record HasHead (old new : Option (List ℕ)) (text : List ℕ) : Type 0 where
  pub taken : List ℕ
  pub most : length taken ≤ 65600
  pub consumed : Consumes old new taken
  pub ends : IsWholeHead taken text ⊎ ((IsAtEnd new × IsLastHead taken text)
      ⊎ IsLongHead taken text)

-- the taken bytes have no marker line
pub record HasNoMarker (old new : Option (List ℕ)) : Type 0 where
  pub taken : List ℕ
  pub most : length taken ≤ 65600
  pub consumed : Consumes old new taken
  pub none : (head_of taken).1 ≡ []

abbrev pub TakesHead : {A : Type 0} → Option (List ℕ) → Option (List ℕ) → Result (Vec ℕ A) HeadError
    → Type 0
TakesHead old new (Ok text) = HasHead old new text.items
TakesHead old new (Err faults.Failed) = HasNoMarker old new
TakesHead old new (Err faults.NoMemory) = Unit {0}

-- no byte waits after the reader failed
abbrev pub SpendsHead : {A : Type 0} → Waiting → Waiting → Result (Vec ℕ A) HeadError → Type 0
SpendsHead old new (Err faults.Failed) = IsUsedUp old new
SpendsHead old new _ = Unit {0}
