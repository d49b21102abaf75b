-- The first place of a planned run at which a condition fails, and the first seed that has one.
use Rattle.std.specs.Prelude.{ℕ, ◌+◌, ◌-◌, Bool, List, length, Option, is_some, if◌then◌else◌}
use Rattle.std.specs.Option.{option_map, option_and_then}
use Rattle.sim_node.specs.Node.{NodeLaws}
use Rattle.sim_node.specs.Numbers.{least}
use Rattle.sim_events.specs.declared.Event.{Event}
use Rattle.sim_events.specs.Scenario.{Scenario}
use Rattle.sim_world.specs.Events.{Rules, rules}
use Rattle.sim_events.specs.Seeds.{numbered}
use Rattle.sim_watch.specs.Condition.{Cond}
use Rattle.sim_scan.specs.Search.{first_failing}
use Rattle.sim_plan.specs.declared.plan.Plan.{Plan}
use Rattle.sim_plan.specs.Happening.{planned_run}

-- Every place of a run is tested, or the last one alone.
abbrev pub failing_of_run : {State Msg : Type 0} → Rules State Msg → Bool → Cond → List Event
    → Option ℕ
failing_of_run r at_end c run =
    first_failing r c run (if at_end then length run else 0) (length run)

module _ {State Msg : Type 0} (node : NodeLaws State Msg) (probes : ℕ) (s : Scenario)
    (given : List Event) (plan : Plan) where
  -- the first failing place of the run of seed number i
  abbrev pub failing_of_planned_seed : Cond → ℕ → Option ℕ
  failing_of_planned_seed c i =
      failing_of_run (rules node probes (numbered i s)) plan.at_end c
      (planned_run node probes (numbered i s) given plan)

  -- the least seed number with a failing place, and its least such place
  abbrev pub first_failing_planned_seed : Cond → ℕ → ℕ → Option (ℕ × ℕ)
  first_failing_planned_seed c first count =
      option_and_then (λ i. option_map (λ p. (i, p)) (failing_of_planned_seed c i))
      (least (λ i. is_some (failing_of_planned_seed c i)) first (first + count - 1))
