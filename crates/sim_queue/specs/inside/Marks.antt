-- Marks on days, one for all days that are equal modulo 256: the bits of four words.
use Rattle.std.specs.Prelude.{◌≡◌, ℕ, ◌/◌, ◌%◌, List, slice_index_or}
use Rattle.std.specs.Int.{bit_at}

-- 1 if a day is marked, else 0
abbrev pub mark_of : List ℕ → ℕ → ℕ
mark_of words day = bit_at (slice_index_or words (day % 256 / 64) 0) (day % 64)

abbrev pub IsMarked : List ℕ → ℕ → Type 0
IsMarked words day = mark_of words day ≡ 1

abbrev pub IsUnmarked : List ℕ → ℕ → Type 0
IsUnmarked words day = mark_of words day ≡ 0
