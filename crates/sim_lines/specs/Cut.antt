-- The input: a scenario's text up to a marker line, and the lines of a script.
use Rattle.std.specs.Prelude.{◌≡◌, ℕ, ◌<◌, List, [], ◌∷◌, ◌++◌, length, Bool, false, ◌==◌}
use Rattle.std.specs.Prelude.{if◌then◌else◌, codes, All, slice_get, ◌⊎◌}
use Rattle.std.specs.List.{slice_split, join_with_byte}
use Rattle.std.specs.Str.{bytes_eq}
use Rattle.std.specs.Str.Lines.{strip_carriage_return}

-- no byte is a line end
abbrev pub HasNoLineEnd : List ℕ → Type 0
HasNoLineEnd bytes = All (λ b. (b == 10) ≡ false) bytes

-- the parts between the line ends
abbrev pub parts : List ℕ → List (List ℕ)
parts bytes = slice_split (λ b. b == 10) bytes

-- each part but the last as a line; no line end follows the last part
abbrev pub whole_lines_of_parts : List (List ℕ) → List (List ℕ)
whole_lines_of_parts [] = []
whole_lines_of_parts (part ∷ []) = []
whole_lines_of_parts (part ∷ next ∷ more) =
    strip_carriage_return part ∷ whole_lines_of_parts (next ∷ more)

-- the lines that a line end follows
abbrev pub whole_lines : List ℕ → List (List ℕ)
whole_lines bytes = whole_lines_of_parts (parts bytes)

abbrev pub is_marker : List ℕ → Bool
is_marker line = bytes_eq line (codes "---")

-- the scenario's text, and the bytes after the marker line
abbrev pub head_of_parts : List (List ℕ) → List ℕ × List ℕ
head_of_parts [] = ([], [])
head_of_parts (part ∷ []) = if is_marker part then ([], []) else (part, [])
head_of_parts (part ∷ next ∷ more) =
    if is_marker (strip_carriage_return part) then ([], join_with_byte 10 (next ∷ more))
    else (part ++ 10 ∷ (head_of_parts (next ∷ more)).0, (head_of_parts (next ∷ more)).1)

-- the bytes before the first line that is exactly `---`, or all of them, and the bytes after that
-- line
unfoldable pub head_of : List ℕ → List ℕ × List ℕ
head_of bytes = head_of_parts (parts bytes)

-- the greatest length of a line of a script
abbrev pub longest_line : ℕ
longest_line = 256

-- what is kept of a line: all of it, or a front that is too long if the line is too long
abbrev pub Shows : List ℕ → List ℕ → Type 0
Shows kept line =
    (kept ≡ line) ⊎ ((256 < length kept) × (256 < length line)
    × (slice_get kept 0 ≡ slice_get line 0))
