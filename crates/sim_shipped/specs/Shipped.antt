-- The protocols that ship, and their nodes.
use Rattle.std.specs.Prelude.{ℕ, List, [], ◌∷◌}
use Rattle.sim_events.specs.Scenario.{Scenario}
use Rattle.sim_scenario.specs.Scenario.{Protocol}
use Rattle.sim_echo.specs.Echo.{echo}
use Rattle.sim_primary_backup.specs.PrimaryBackup.{primary_backup}
use Rattle.sim_abd.specs.Abd.{abd}
use Rattle.sim_two_phase.specs.TwoPhase.{two_phase}
use Rattle.sim_protocols.specs.Probes.{probe_names}
use Rattle.sim_protocols.specs.declared.Protocol.TheVariants as which
use Rattle.sim_subjects.specs.Subjects.{of_echo, of_backup, of_abd, of_commit}
use Rattle.sim_cli.specs.Play.{Nodes}
use Rattle.sim_cli.specs.Subjects.{first_or, nodes_with}

-- the protocols, by their places
abbrev pub shipped : List Protocol
shipped = of_echo ∷ of_backup ∷ of_abd ∷ of_commit ∷ []

-- their nodes, by their places
abbrev pub shipped_nodes : ℕ → Scenario → Nodes
shipped_nodes =
    first_or (nodes_with echo 2 (probe_names which.Echo))
    (first_or (nodes_with primary_backup 2 (probe_names which.PrimaryBackup))
    (first_or (nodes_with abd 3 (probe_names which.AbdRegister))
    (λ place. nodes_with two_phase 2 (probe_names which.TwoPhase))))
