-- The run that events make: those that can happen.
use Rattle.std.specs.Prelude.{ℕ, ◌+◌, ◌≤◌, ◌^◌, Bool, List, [], ◌∷◌, ◌++◌, Option, None, Some}
use Rattle.std.specs.Option.{ForSome}
use Rattle.sim_node.specs.Node.{NodeLaws}
use Rattle.sim_events.specs.declared.Event.{Event}
use Rattle.sim_events.specs.Scenario.{Scenario}
use Rattle.sim_world.specs.World.{World}
use Rattle.sim_world.specs.Events.{Rules, rules, start, next}
use Rattle.sim_plan.specs.declared.plan.Plan.{Plan}
use Rattle.sim_plan.specs.Planned.{planned}

module _ {State Msg : Type 0} (r : Rules State Msg) where
  -- those of these events that can happen, one after the other
  abbrev pub happening : World State Msg → List Event → List Event
  happening w [] = []
  happening w (e ∷ es) = elim (next r w e) [ None ↦ happening w es | Some v ↦ e ∷ happening v es ]

-- The run of a scenario: those of the given events, and then of the planned ones, that can happen.
abbrev pub planned_run : {State Msg : Type 0} → NodeLaws State Msg → ℕ → Scenario → List Event
    → Plan → List Event
planned_run node probes s given plan =
    happening (rules node probes s) (start (rules node probes s)) (given ++ planned s plan)

-- A plan, with the events given before it, is within the limits: a spacing of 2 to 65,536, if any,
-- and room for two healings.
pub record IsPlan (given : ℕ) (plan : Plan) : Type 0 where
  pub spacing : ForSome plan.spacing (λ f. (2 ≤ f) × (f ≤ 65536))
  pub events : given + plan.events + plan.quiet ≤ 65534

-- the plan with these numbers
abbrev pub plan_with : Option ℕ → ℕ → ℕ → Bool → Plan
plan_with faults events quiet at_end =
    record { spacing = faults; events = events; quiet = quiet; at_end = at_end }

-- the spacing is greater than that of any plan
abbrev pub IsWide : Option ℕ → Type 0
IsWide None = ⊥
IsWide (Some spacing) = 2 ^ 32 ≤ spacing
