-- The nodes of the protocols that a program plays, and a play over them.
use Rattle.std.specs.Prelude.{◌≡◌, ℕ, zero, suc, List, Option, Some}
use Rattle.std.specs.Io.KnownBytes.{prepend_known}
use Rattle.sim_lines.specs.Waiting.{Waiting, CountsReads}
use Rattle.sim_node.specs.Node.{NodeLaws}
use Rattle.sim_events.specs.Scenario.{Scenario}
use Rattle.sim_world.specs.Events.{Rules, rules}
use Rattle.sim_scenario.specs.Scenario.{ScenarioText}
use Rattle.sim_script.specs.Script.{Text, Names}
use Rattle.sim_cli.specs.declared.status.Status.{Status}
use Rattle.sim_cli.specs.Turns.{beginning}
use Rattle.sim_cli.specs.Play.{Ended, Nodes, PlaysOn, scenario}

-- nodes with these laws and this many probes, of these names
abbrev pub nodes_with : {State Msg : Type 0} → NodeLaws State Msg → ℕ → List Text → Scenario → Nodes
nodes_with {State} {Msg} laws probes names s =
    record { State = State; Msg = Msg; rules = rules laws probes s; probes = names }

-- the nodes of the first protocol of a list, or of those after it, by their places
abbrev pub first_or : (Scenario → Nodes) → (ℕ → Scenario → Nodes) → ℕ → Scenario → Nodes
first_or first later zero = first
first_or first later (suc place) = later place

-- the nodes of a scenario, by the place of its protocol
abbrev pub nodes_by : (ℕ → Scenario → Nodes) → ScenarioText → Nodes
nodes_by nodes s = nodes s.protocol (scenario s)

-- the input and the output at a moment
-- ahead     what was read and not yet taken
-- left      what is left to be read
-- held      what the writer holds
pub record Ports : Type 0 where
  pub ahead : Waiting
  pub left : Option Text
  pub held : Option Text

abbrev pub ports : Waiting → Option Text → Option Text → Ports
ports ahead left held = record { ahead = ahead; left = left; held = held }

-- a script was played over nodes with these rules
pub record PlaysScript {State Msg : Type 0} (r : Rules State Msg) (names : Names) (old new : Ports)
    (ended : Status) : Type 0 where
  pub played : (script : Text) → prepend_known old.ahead.bytes old.left ≡ Some script
      → Ended old.held new.held (PlaysOn r names beginning script new.ahead new.left ended)
  pub counts : CountsReads old.ahead new.ahead old.left new.left
