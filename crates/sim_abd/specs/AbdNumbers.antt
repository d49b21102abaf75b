-- The number of the current operation has 16 bits.
use Rattle.std.specs.Prelude.{ℕ, ◌<◌, ◌^◌}
use Rattle.sim_abd.specs.declared.roles.Phase.{Phase}
use Rattle.sim_abd.specs.declared.roles.Phase.TheVariants as phase

-- the number in a phase; a client that rests has no operation
abbrev pub IsCounted : Phase → ℕ → Type 0
IsCounted phase.Resting next = Unit {0}
IsCounted phase.Asking next = next < 2 ^ 16
IsCounted phase.Storing next = next < 2 ^ 16
