-- The records of the register: the role before a reaction.
use Rattle.std.specs.Prelude.{ℕ, ◌<◌, IfSome}
use Rattle.sim_node.specs.Node.{NodeRecords}
use Rattle.sim_abd.specs.declared.roles.Server.{Server}
use Rattle.sim_abd.specs.declared.roles.Role.{Role}
use Rattle.sim_abd.specs.declared.roles.Role.TheVariants as role
use Rattle.sim_abd.specs.declared.roles.State.{State}

-- the host to which a server owes an answer exists
abbrev pub IsPlacedServer : ℕ → Server → Type 0
IsPlacedServer hosts s = IfSome s.owed (λ o. o.host < hosts)

abbrev pub IsPlaced : ℕ → Role → Type 0
IsPlaced hosts (role.Client c) = Unit {0}
IsPlaced hosts (role.Server s) = IsPlacedServer hosts s

abbrev pub abd_records : NodeRecords State Role
abd_records = record {
  fits = λ before state. IsPlaced state.setup.hosts before;
  back = λ before state. record state { role = before };
}
