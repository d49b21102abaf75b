-- How the next byte changes what waits.
use Rattle.std.specs.Prelude.{◌≡◌, ℕ, ◌+◌, ◌<◌, List, [], ◌∷◌, length, Option, ◌⊎◌}
use Rattle.std.specs.Io.KnownBytes.{Consumes, IsAtEnd}
use Rattle.sim_lines.specs.declared.reading.Next.{Next}
use Rattle.sim_lines.specs.declared.reading.Next.TheVariants.{Byte, End, Failed}
use Rattle.sim_lines.specs.Waiting.{Waiting, IsUsedUp}

abbrev pub Gives : Option (List ℕ) → Option (List ℕ) → Next → Type 0
Gives old new (Byte b) = Consumes old new (b ∷ [])
Gives old new End = Consumes old new [] × IsAtEnd new
Gives old new Failed = Consumes old new []

-- A waiting byte is taken without a read. If none waits, one read of at most 4,096 bytes is made,
-- and its first byte is taken.
abbrev pub Spends : Waiting → Waiting → Next → Type 0
Spends old new (Byte b) =
    ((old.bytes ≡ b ∷ new.bytes) × (old.reads ≡ new.reads))
    ⊎ ((old.bytes ≡ []) × (old.reads ≡ new.reads + 1) × (length new.bytes < 4096))
Spends old new End = (old.bytes ≡ []) × (old.reads ≡ new.reads + 1) × (new.bytes ≡ [])
Spends old new Failed = (old.bytes ≡ []) × IsUsedUp old new
