-- The lines that answer no turn.
use Rattle.std.specs.Prelude.{codes, [], ◌∷◌}
use Rattle.std.specs.Fmt.{decimal}
use Rattle.sim_scenario.specs.Scenario.{Fault}
use Rattle.sim_script.specs.Script.{Text}
use Rattle.sim_answers.specs.Lines.{spaced, line}

-- the line of a script is no command
abbrev pub bad_line : Text
bad_line = codes "bad line\n"

-- the line of a scenario's fault
abbrev pub fault_line : Fault → Text
fault_line why =
    line (spaced (codes "scenario" ∷ codes "fault" ∷ decimal why.number ∷ why.key ∷ []))
