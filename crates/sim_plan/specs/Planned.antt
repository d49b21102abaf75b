-- The planned events of a numbered run: steps and, at random places, faults and their healings.
use Rattle.std.specs.Prelude.{◌≡◌, ℕ, zero, suc, ◌+◌, ◌-◌, ◌/◌, ◌%◌, ◌==◌, Bool, ◌&&◌, ◌||◌, Option}
use Rattle.std.specs.Prelude.{None, Some, List, [], ◌∷◌, ◌++◌, length, map, replicate}
use Rattle.std.specs.Prelude.{if◌then◌else◌}
use Rattle.sim_streams.specs.Word.{word}
use Rattle.sim_events.specs.declared.Event.{Event}
use Rattle.sim_events.specs.declared.Event.TheVariants as event
use Rattle.sim_events.specs.declared.Fault.{Fault}
use Rattle.sim_events.specs.declared.Fault.TheVariants as fault
use Rattle.sim_events.specs.Scenario.{Scenario}
use Rattle.sim_plan.specs.declared.plan.Plan.{Plan}

-- the words that plan faults are those of stream 34, the first that no world has
abbrev pub planning : ℕ
planning = 34

-- A wound is healed if two are open, or if one is and the number is odd.
abbrev pub heals : ℕ → List Fault → Bool
heals v owed = (length owed == 2) || ((v % 2 == 1) && (length owed == 1))

-- Of two wounds an even number heals the older, which comes first; an odd one heals the other.
abbrev pub healing : ℕ → List Fault → Event × List Fault
healing k [] = (event.Step, [])
healing k (f ∷ []) = (event.Fault f, [])
healing k (f ∷ g ∷ more) =
    if k % 2 == 0 then (event.Fault f, g ∷ more) else (event.Fault g, f ∷ more)

-- the fault of a kind, and its healing, if it is a wound
abbrev pub fault_of_kind : ℕ → ℕ → ℕ → ℕ → Fault × List Fault
fault_of_kind kind server a b =
    if kind == 1 then (fault.Crash server, fault.Bounce server ∷ [])
    else if kind == 2 then (fault.Cut a b, fault.Repair a b ∷ [])
    else if kind == 3 then (fault.Hold a b, fault.Release a b ∷ [])
    else if kind == 4 then (fault.CutOneway a b, fault.RepairOneway a b ∷ [])
    else (fault.Bounce server, [])

-- The number modulo 6 is the kind; the rest gives the server, and the two hosts, which differ.
abbrev pub new_fault : ℕ → ℕ → ℕ → Fault × List Fault
new_fault servers hosts u =
    let x = u / 6 in
    let a = x % hosts in
    fault_of_kind (u % 6) (x % servers) a ((a + 1 + x / hosts % (hosts - 1)) % hosts)

-- a fault or a healing, and the healings that are owed then
abbrev pub struck : ℕ → ℕ → ℕ → List Fault → Event × List Fault
struck servers hosts v owed =
    if heals v owed then healing (v / 2) owed
    else (
      event.Fault (new_fault servers hosts (v / 2)).0,
      owed ++ (new_fault servers hosts (v / 2)).1,
    )

-- What a word plans: a step, unless the spacing divides the word. Without a spacing, always a step.
abbrev pub planned_by : ℕ → ℕ → Option ℕ → ℕ → List Fault → Event × List Fault
planned_by servers hosts None w owed = (event.Step, owed)
planned_by servers hosts (Some spacing) w owed =
    if w % spacing == 0 then struck servers hosts (w / spacing) owed else (event.Step, owed)

-- A quiet end begins with the healings that are owed, oldest first. Without a quiet end they are
-- left out.
abbrev pub quiet_end : ℕ → List Fault → List Event
quiet_end zero owed = []
quiet_end (suc q) owed = map event.Fault owed ++ replicate (suc q) event.Step

-- n planned events, with the words from a place of the stream on, and then the quiet end
module _ (words : ℕ → ℕ) (servers hosts : ℕ) (spacing : Option ℕ) (quiet : ℕ) where
  abbrev pub planned_from : ℕ → ℕ → List Fault → List Event
  planned_from place zero owed = quiet_end quiet owed
  planned_from place (suc n) owed =
      (planned_by servers hosts spacing (words place) owed).0
      ∷ planned_from (place + 1) n (planned_by servers hosts spacing (words place) owed).1

-- The planned events depend on the seed, the numbers of servers and hosts, the spacing if there is
-- one, the number of events and the quiet end alone.
unfoldable pub planned_events : List ℕ → ℕ → ℕ → Plan → List Event
planned_events seed servers hosts plan =
    planned_from (word seed planning) servers hosts plan.spacing plan.quiet 0 plan.events []

-- the planned events of a scenario
abbrev pub planned : Scenario → Plan → List Event
planned s plan = planned_events s.seed s.setup.servers s.setup.hosts plan

-- The law of planning: with equal seeds, numbers of servers and hosts, spacings, numbers of events
-- and quiet steps, the planned events are equal.
abbrev pub PlansAlike : Scenario → Plan → Type 0
PlansAlike s plan =
    (t : Scenario) (other : Plan) → t.seed ≡ s.seed → t.setup.servers ≡ s.setup.servers
    → t.setup.hosts ≡ s.setup.hosts
    → other.spacing ≡ plan.spacing → other.events ≡ plan.events → other.quiet ≡ plan.quiet
    → planned t other ≡ planned s plan
