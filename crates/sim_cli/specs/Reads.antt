-- The reading of a scenario's bytes. Crates above do not cite this file: by it they would load all
-- that is known of the map from names to numbers.
use Rattle.std.specs.Prelude.{◌≡◌, List, string_bytes, Ok, length, ◌<◌}
use Rattle.sim_scenario.specs.Scenario.{Protocol, Fault as ScenarioFault}
use Rattle.sim_scenario.specs.Limits.{IsWithinLimits}
use Rattle.sim_scenario.specs.Seen.{seen}
use Rattle.sim_cli.specs.declared.scenario.WasRead.{WasRead}
use Rattle.sim_cli.specs.declared.scenario.WasRead.TheVariants as was
use Rattle.sim_script.specs.Script.{Text}
use Rattle.sim_cli.specs.Lines.{fault_line}
use Rattle.sim_cli.specs.Play.{read_scenario}
use Rattle.sim_cli.specs.Answers.{Faults}

-- a scenario that was read, or the line of a fault, or memory was wanted
abbrev pub Reads : List Protocol → Text → WasRead → Type 0
Reads protocols text (was.Scenario s) = read_scenario protocols text ≡ Ok (seen s)
Reads protocols text (was.Fault line) = Faults protocols text (string_bytes line)
Reads protocols text was.NoMemory = Unit {0}

-- a scenario that was read is within the limits
abbrev pub KeepsLimits : List Protocol → WasRead → Type 0
KeepsLimits protocols (was.Scenario s) =
    IsWithinLimits (seen s) × (s.protocol < length protocols)
KeepsLimits protocols (was.Fault line) = Unit {0}
KeepsLimits protocols was.NoMemory = Unit {0}

-- the line of this fault, or memory was wanted
abbrev pub TellsFault : ScenarioFault → WasRead → Type 0
TellsFault why (was.Scenario s) = ⊥
TellsFault why (was.Fault line) = string_bytes line ≡ fault_line why
TellsFault why was.NoMemory = Unit {0}
