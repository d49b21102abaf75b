-- An entry as it is stored: without the time of an advance, which is the clock after it.
use Rattle.std.specs.Prelude.{◌≡◌, ℕ, refl}
use Rattle.sim_events.specs.declared.Event.{Event}
use Rattle.sim_events.specs.declared.Event.TheVariants as event
use Rattle.sim_history.specs.declared.entry.Kind.{Kind}
use Rattle.sim_history.specs.declared.entry.Kind.TheVariants as kind

-- the event that is stored with a clock
abbrev pub event_at : ℕ → Kind → Event
event_at clock kind.Step = event.Step
event_at clock kind.Advance = event.Advance clock
event_at clock (kind.Fault f) = event.Fault f

-- what is stored of an event
abbrev pub kind_of : Event → Kind
kind_of event.Step = kind.Step
kind_of (event.Advance to) = kind.Advance
kind_of (event.Fault f) = kind.Fault f

pub same_kind : (clock : ℕ) (k : Kind) → kind_of (event_at clock k) ≡ k
same_kind clock kind.Step = refl
same_kind clock kind.Advance = refl
same_kind clock (kind.Fault f) = refl
