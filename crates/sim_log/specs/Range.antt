-- Which events of a run are shown.
use Rattle.std.specs.Prelude.{ℕ, ◌≤◌}

-- A run of `count` events has the events `from` to `to`; the first is event 1.
abbrev pub IsRange : ℕ → ℕ → ℕ → Type 0
IsRange from to count = (1 ≤ from) × (from ≤ to) × (to ≤ count)
