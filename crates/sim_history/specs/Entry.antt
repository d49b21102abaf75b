-- A kept event.
use Rattle.std.specs.Prelude.{◌≡◌, ℕ, ◌^◌, ◌<◌}
use Rattle.sim_events.specs.declared.Event.{Event}
use Rattle.sim_events.specs.declared.Event.TheVariants as event

-- a kept event, and the clock after it (ms)
pub record Entry : Type 0 where
  pub event : Event
  pub clock : ℕ

-- the clock can come after the event: an advance leads to it. It has at most 32 bits.
pub record IsAfter (e : Event) (clock : ℕ) : Type 0 where
  pub reached : (to : ℕ) → e ≡ event.Advance to → to ≡ clock
  pub small : clock < 2 ^ 32
