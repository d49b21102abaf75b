-- The results of a search and a sweep, by the definitions of a first failing place and of their
-- faults.
use Rattle.std.specs.Prelude.{◌≡◌, ℕ, zero, suc, ◌≤◌, ◌==◌, ◌&&◌, Bool, not, is_none, List, [], ◌∷◌}
use Rattle.std.specs.Prelude.{length, Option, None, Some, Result, Ok, Err, ⊤, if◌then◌else◌}
use Rattle.std.specs.Str.Lines.{lines}
use Rattle.sim_events.specs.declared.Event.{Event}
use Rattle.sim_node.specs.Node.{NodeLaws}
use Rattle.sim_events.specs.Scenario.{Scenario}
use Rattle.sim_world.specs.Events.{Rules, rules}
use Rattle.sim_watch.specs.Condition.{Cond}
use Rattle.sim_scan.specs.Search.{first_failing, first_failing_seed}
use Rattle.sim_search.specs.declared.SearchFault.{SearchFault}
use Rattle.sim_search.specs.declared.SearchFault.TheVariants as fault
use Rattle.sim_search.specs.Faults.{search_fault, sweep_fault}
use Rattle.sim_plan.specs.declared.plan.Plan.{Plan}
use Rattle.sim_sweep.specs.Faults.{planned_sweep_fault}
use Rattle.sim_sweep.specs.Planned.{first_failing_planned_seed}
use Rattle.sim_scenario.specs.Scenario.{Protocol}
use Rattle.sim_script.specs.Script.{Text, Names, words}
use Rattle.sim_script.specs.Conditions.{condition}
use Rattle.sim_plan.specs.Happening.{plan_with}
use Rattle.sim_cli.specs.Played.{first_events, given_events}
use Rattle.sim_cli.specs.Turns.{beginning}
use Rattle.sim_cli.specs.Play.{Nodes}
use Rattle.sim_cli.specs.Strict.{are_well}
use Rattle.sim_cli.specs.declared.status.Status.{Status}
use Rattle.sim_cli.specs.declared.stop.ScriptStop.{ScriptStop}
use Rattle.sim_cli.specs.declared.stop.ScriptStop.TheVariants as stop
use Rattle.sim_job.specs.declared.wanted.FaultPlan.{FaultPlan}
use Rattle.sim_hunt.specs.declared.answer.Answer.{Answer}
use Rattle.sim_hunt.specs.declared.answer.Answer.TheVariants.{BadRange, BadCondition, BadScript}
use Rattle.sim_hunt.specs.declared.hunting.Area.{Area}
use Rattle.sim_hunt.specs.declared.hunting.Area.TheVariants.{Places, Seeds, Planned}
use Rattle.sim_hunt.specs.declared.hunting.PlannedRuns.{PlannedRuns}
use Rattle.sim_hunt.specs.Answers.{at_place, at_seed}

-- 1 to 16 workers can share a hunt
abbrev pub IsTeam : ℕ → Type 0
IsTeam workers = (1 ≤ workers) × (workers ≤ 16)

-- the answer of a fault, or the result if there is no fault
abbrev pub answer_by : Option SearchFault → Answer → Answer
answer_by None found = found
answer_by (Some fault.BadRange) found = BadRange
answer_by (Some fault.BadCondition) found = BadCondition
answer_by (Some fault.NoMemory) found = found

-- a hunt ends as its script did, or with the answer that a line is at fault
abbrev pub StopIs : ScriptStop → Result Answer Status → Type 0
StopIs (stop.Ended ended) result = result ≡ Err ended
StopIs (stop.Fault fault) result = result ≡ Ok BadScript

abbrev pub planned_runs : FaultPlan → Bool → Bool → Bool → ℕ → ℕ → ℕ → PlannedRuns
planned_runs plan at_end script strict first count events = record {
  first = first;
  count = count;
  events = events;
  plan = plan;
  at_end = at_end;
  script = script;
  strict = strict;
}

-- the plan of the runs of a sweep
abbrev pub plan_of : PlannedRuns → Plan
plan_of runs = plan_with runs.plan.faults runs.events runs.plan.quiet runs.at_end

-- A sweep is of steps alone if the command line asks for nothing else. Without a script no line is
-- at fault.
abbrev pub is_plain : PlannedRuns → Bool
is_plain runs =
    is_none runs.plan.faults && ((runs.plan.quiet == 0) && (not runs.at_end && not runs.script))

abbrev pub area_of : PlannedRuns → Area
area_of runs = if is_plain runs then Seeds runs.first runs.count runs.events else Planned runs

module _ {State Msg : Type 0} (r : Rules State Msg) where
  abbrev pub search_answer : Cond → List Event → ℕ → ℕ → Answer
  search_answer c events lo hi =
      answer_by (search_fault lo hi (length events) r.scenario.setup.hosts r.probes c)
      (at_place (first_failing r c events lo hi))

  abbrev pub sweep_answer : Cond → ℕ → ℕ → ℕ → Answer
  sweep_answer c first count events =
      answer_by (sweep_fault first count events r.scenario.setup.hosts r.probes c)
      (at_seed (first_failing_seed r.node r.probes r.scenario c events first count))

  -- the answer of a sweep over planned runs, each after the same given events
  abbrev pub planned_answer : Cond → List Event → PlannedRuns → Answer
  planned_answer c given runs =
      answer_by (planned_sweep_fault runs.first runs.count (length given) (plan_of runs)
      r.scenario.setup.hosts r.probes c)
      (at_seed (first_failing_planned_seed r.node r.probes r.scenario given (plan_of runs) c
      runs.first runs.count))

  -- the result, or that a line of the script is at fault, if `strict`
  abbrev pub if_well : Bool → Names → Text → Answer → Answer
  if_well strict names script found =
      if strict && not (are_well r names beginning (lines script)) then BadScript else found

  -- the result in a range of places of the run that a script leaves, or in a range of seeds
  abbrev pub found_on : Names → Area → Text → Cond → Answer
  found_on names (Places lo hi strict) script c =
      if_well strict names script (search_answer c (first_events r names script) lo hi)
  found_on names (Seeds first count events) script c = sweep_answer c first count events
  found_on names (Planned runs) script c = if_well (runs.script && runs.strict) names script
      (planned_answer c (given_events r runs.script names script) runs)

  -- the same, if the words are this condition, or none
  abbrev pub found_for : Names → Area → Text → Option Cond → Answer
  found_for names area script None = BadCondition
  found_for names area script (Some c) = found_on names area script c

  -- the answer of a hunt: the words of the condition are read first
  abbrev pub hunt_answer : Names → Area → Text → Text → Answer
  hunt_answer names area cond script = found_for names area script (condition names (words cond))

-- The list has a protocol at this place.
abbrev pub Has : ℕ → List Protocol → Type 0
Has k [] = ⊥
Has zero (p ∷ ps) = ⊤
Has (suc k) (p ∷ ps) = Has k ps

-- The result over the nodes at a place is that over nodes with these laws and probes.
abbrev pub Serves : {State Msg : Type 0} → (Scenario → Nodes) → NodeLaws State Msg → ℕ → Type 0
Serves nodes node probes = (s : Scenario) (names : Names) (area : Area) (script : Text) (c : Cond)
    → found_on (nodes s).rules names area script c
    ≡ found_on (rules node probes s) names area script c
