-- Which word makes a line of a script bad.
use Rattle.std.specs.Prelude.{ℕ, ◌+◌, ◌<◌, ◌≤◌, length}
use Rattle.sim_script.specs.Words.{Text, words}

-- the number of words of a line, `taken` of which come before the rest
abbrev pub total : ℕ → Text → ℕ
total taken rest = taken + length (words rest)

-- `word` is the number of a word after the first `taken`, or one past the last word.
abbrev pub IsBetween : ℕ → ℕ → ℕ → Type 0
IsBetween taken word all = (taken < word) × (word ≤ all + 1)
