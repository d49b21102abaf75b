-- How words are joined to a line.
use Rattle.std.specs.Prelude.{ℕ, codes, List, [], ◌∷◌, ◌++◌}
use Rattle.std.specs.Fmt.{decimal}
use Rattle.sim_script.specs.Words.{Text}

-- words with a space between each two
abbrev pub spaced : List Text → Text
spaced [] = []
spaced (x ∷ []) = x
spaced (x ∷ y ∷ more) = x ++ (codes " " ++ spaced (y ∷ more))

-- a word and the number after it, in decimal digits
abbrev pub field : Text → ℕ → Text
field word n = spaced (word ∷ decimal n ∷ [])

abbrev pub line : Text → Text
line text = text ++ codes "\n"
