-- The output if memory suffices.
use Rattle.std.specs.Prelude.{◌≡◌, List, ◌++◌, codes, ◌⊎◌}
use Rattle.sim_scenario.specs.Scenario.{Protocol, ScenarioText}
use Rattle.sim_cli.specs.declared.status.Status.{Status}
use Rattle.sim_cli.specs.declared.status.Status.TheVariants as status
use Rattle.sim_script.specs.Script.{Text}
use Rattle.sim_cli.specs.Play.{Nodes, out}

-- one text is a part of another
abbrev pub StandsIn : Text → Text → Type 0
StandsIn part text = (front : Text) × (rest : Text) × (text ≡ front ++ (part ++ rest))

-- the output reports somewhere that a command wanted memory
abbrev pub TellsWant : Text → Type 0
TellsWant written =
    StandsIn (codes "refused 12 NoMemory\n") written ⊎ StandsIn (codes "not taken NoMemory\n")
    written

-- a play reached the end of its input, or reported its scenario as bad
abbrev pub IsDone : Status → Type 0
IsDone ended = (ended ≡ status.Well) ⊎ (ended ≡ status.BadScenario)

-- if no command wanted memory, the output is `out` of the input
abbrev pub IsPlain : List Protocol → (ScenarioText → Nodes) → Text → Text → Type 0
IsPlain protocols nodes_of given written =
    ¬ (TellsWant written) → written ≡ out protocols nodes_of given
