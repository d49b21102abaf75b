-- The protocols that ship: the name of each in a scenario, and the number of servers that it needs.
use Rattle.std.specs.Prelude.{codes}
use Rattle.sim_scenario.specs.Scenario.{Protocol}

abbrev pub of_echo : Protocol
of_echo = record { name = codes "echo"; least_servers = 1 }

abbrev pub of_backup : Protocol
of_backup = record { name = codes "primary_backup"; least_servers = 2 }

abbrev pub of_abd : Protocol
of_abd = record { name = codes "abd"; least_servers = 1 }

abbrev pub of_commit : Protocol
of_commit = record { name = codes "two_phase"; least_servers = 2 }
