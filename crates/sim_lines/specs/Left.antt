-- Which bytes of the handed texts a writer received.
use Rattle.std.specs.Prelude.{◌≡◌, ℕ, List, [], Option, Result, Ok, Err, ◌++◌}
use Rattle.std.specs.Io.KnownBytes.{Appends}

-- the writer received a front part of the text, and nothing else
abbrev pub AppendsPart : Option (List ℕ) → Option (List ℕ) → List ℕ → Type 0
AppendsPart old new text =
    (part : List ℕ) × (after : List ℕ) × (text ≡ part ++ after) × Appends old new part

-- The writer received a front part of the waiting bytes and the text after them; the rest is left.
pub record Passes (old new : Option (List ℕ)) (waiting text left : List ℕ) : Type 0 where
  pub part : List ℕ
  pub appended : Appends old new part
  pub all : waiting ++ text ≡ part ++ left

-- the same for some rest
pub record PassesSome (old new : Option (List ℕ)) (waiting text : List ℕ) : Type 0 where
  pub left : List ℕ
  pub passes : Passes old new waiting text left

-- a text is handed over and the rest waits; if the writer fails, the rest is lost
abbrev pub HandsOver : {T E : Type 0} → Option (List ℕ) → Option (List ℕ) → List ℕ → List ℕ → List ℕ
    → Result T E → Type 0
HandsOver old new waiting text left (Ok _) = Passes old new waiting text left
HandsOver old new waiting text left (Err _) = PassesSome old new waiting text

-- all waiting bytes are written
abbrev pub WritesAll : {T E : Type 0} → Option (List ℕ) → Option (List ℕ) → List ℕ → List ℕ
    → Result T E → Type 0
WritesAll old new waiting left (Ok _) = Passes old new waiting [] [] × (left ≡ [])
WritesAll old new waiting left (Err _) = PassesSome old new waiting []
