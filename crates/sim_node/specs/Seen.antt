-- The effects that the program stores, as contracts see them.
use Rattle.std.specs.Prelude.{◌≡◌, ℕ, ◌≤◌, ◌<◌, List, [], ◌∷◌, take, length}
use Rattle.sim_node.specs.declared.effects.Effect.{Effect as Stored}
use Rattle.sim_node.specs.declared.effects.Effect.TheVariants as stored
use Rattle.sim_node.specs.Effects.{Effect}

-- of a write, only the first `len` bytes count
abbrev pub seen : {M : Type 0} → Stored M → Effect M
seen (stored.Send to msg) = Effect.Send to msg
seen (stored.Timer delay) = Effect.Timer delay
seen (stored.Write offset len bytes) = Effect.Write offset (take len bytes)
seen stored.Sync = Effect.Sync
seen stored.Done = Effect.Done

-- A stored effect is within the limits: it names a host, a delay from 1 to 60,000 ms, or 1 to 64 of
-- its 64 stored bytes.
abbrev pub IsStored : {M : Type 0} → ℕ → Stored M → Type 0
IsStored hosts (stored.Send to msg) = to < hosts
IsStored hosts (stored.Timer delay) = (1 ≤ delay) × (delay ≤ 60000)
IsStored hosts (stored.Write offset len bytes) = (1 ≤ len) × (len ≤ 64) × (length bytes ≡ 64)
IsStored hosts stored.Sync = Unit {0}
IsStored hosts stored.Done = Unit {0}

abbrev pub AllStored : {M : Type 0} → ℕ → List (Stored M) → Type 0
AllStored hosts [] = Unit {0}
AllStored hosts (e ∷ es) = IsStored hosts e × AllStored hosts es
