-- A text between two others.
use Rattle.std.specs.Prelude.{◌≡◌, ◌≢◌, ℕ, ◌++◌, All}
use Rattle.sim_script.specs.Script.{Text}

-- The text between the two has no `<`.
abbrev pub IsBetween : Text → Text → Text → Type 0
IsBetween before after text =
    (middle : Text) × (text ≡ before ++ middle ++ after) × All (λ (b : ℕ). b ≢ 60) middle
