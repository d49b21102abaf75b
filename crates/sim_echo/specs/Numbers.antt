-- Counters.
use Rattle.std.specs.Prelude.{ℕ, ◌+◌, ◌-◌, ◌^◌, min}

-- the largest value of a counter
abbrev pub largest : ℕ
largest = 2 ^ 64 - 1

-- a counter plus one; it stays at its largest value
abbrev pub raised : ℕ → ℕ
raised n = min (n + 1) largest
