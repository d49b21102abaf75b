-- The stored words of the streams.
use Rattle.std.specs.Prelude.{◌≡◌, ℕ, ◌+◌, ◌<◌, List, length, slice_index, slice_index_or}
use Rattle.sim_streams.specs.declared.Kept.{Kept}
use Rattle.sim_streams.specs.Word.{word}

-- these are the words of a stream from a place on
abbrev pub AreWords : List ℕ → ℕ → ℕ → List ℕ → Type 0
AreWords seed stream first words =
    (i : ℕ) → i < length words → slice_index words i ≡ word seed stream (first + i)

-- these are the word of a stream at a place and the next one
abbrev pub ArePair : List ℕ → ℕ → ℕ → ℕ × ℕ → Type 0
ArePair seed stream place pair =
    (pair.0 ≡ word seed stream place) × (pair.1 ≡ word seed stream (place + 1))

-- the stored words are words of the stream
abbrev pub IsKept : List ℕ → ℕ → Kept → Type 0
IsKept seed stream kept = AreWords seed stream kept.first kept.words.items

-- the words stored for each stream are its own
pub record AreKept (seed : List ℕ) (kept : List Kept) : Type 0 where
  pub all : length kept ≡ 34
  pub own : (s : ℕ) (k : Kept) → s < 34 → k ≡ slice_index_or kept s k → IsKept seed s k
