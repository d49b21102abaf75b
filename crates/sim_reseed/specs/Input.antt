-- An input for a play: the text of a scenario, a marker line, and a script.
use Rattle.std.specs.Prelude.{ℕ, List, [], ◌∷◌, ◌++◌, Bool, true, ◌==◌, if◌then◌else◌}
use Rattle.std.specs.List.{list_any}
use Rattle.std.specs.Str.Lines.{lines}
use Rattle.sim_lines.specs.Cut.{is_marker}

-- the text is empty or ends with a line end
abbrev pub ends_its_lines : List ℕ → Bool
ends_its_lines [] = true
ends_its_lines (b ∷ []) = b == 10
ends_its_lines (b ∷ c ∷ more) = ends_its_lines (c ∷ more)

-- the text with a line end after its last line
abbrev pub with_line_end : List ℕ → List ℕ
with_line_end text = if ends_its_lines text then text else text ++ 10 ∷ []

-- some line is the marker
abbrev pub has_marker : List ℕ → Bool
has_marker text = list_any is_marker (lines text)
