-- The hosts of a fault, and why it cannot happen.
use Rattle.std.specs.Prelude.{ℕ, ◌==◌, nat_le, Bool, false, List, [], ◌∷◌, Option, Some, None}
use Rattle.std.specs.Prelude.{if◌then◌else◌}
use Rattle.std.specs.List.{list_any}
use Rattle.sim_events.specs.declared.Fault.{Fault}
use Rattle.sim_events.specs.declared.Fault.TheVariants as fault
use Rattle.sim_events.specs.declared.Refusal.{Refusal}
use Rattle.sim_events.specs.declared.Refusal.TheVariants as refusal

-- the hosts that a fault names
abbrev pub hosts_of : Fault → List ℕ
hosts_of (fault.Crash h) = h ∷ []
hosts_of (fault.Bounce h) = h ∷ []
hosts_of (fault.Hold a b) = a ∷ b ∷ []
hosts_of (fault.Release a b) = a ∷ b ∷ []
hosts_of (fault.Cut a b) = a ∷ b ∷ []
hosts_of (fault.CutOneway a b) = a ∷ b ∷ []
hosts_of (fault.Repair a b) = a ∷ b ∷ []
hosts_of (fault.RepairOneway a b) = a ∷ b ∷ []

abbrev pub are_same : List ℕ → Bool
are_same (a ∷ b ∷ []) = a == b
are_same _ = false

-- Why a fault cannot happen among this many hosts: one that it names does not exist, or two that
-- must differ are the same.
abbrev pub hosts_refusal : ℕ → List ℕ → Option Refusal
hosts_refusal hosts named =
    if list_any (λ h. nat_le hosts h) named then Some refusal.UnknownHost
    else if are_same named then Some refusal.SameHost
    else None
