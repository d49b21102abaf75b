-- The contents of a writer, of which only additions are known.
use Rattle.std.specs.Prelude.{ℕ, List, Option}
use Rattle.std.specs.Io.KnownBytes.{Appends}

-- The contents of a writer grow at the end, or stay.
abbrev pub Grows : Option (List ℕ) → Option (List ℕ) → Type 0
Grows old new = (more : List ℕ) × Appends old new more
