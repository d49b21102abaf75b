-- The records of the counter: the role before a reaction.
use Rattle.std.specs.Prelude.{ℕ, ◌<◌}
use Rattle.sim_node.specs.Node.{NodeRecords}
use Rattle.example_counter.specs.declared.Role.{Role}
use Rattle.example_counter.specs.declared.Role.TheVariants.{Client, Idle, Saving}
use Rattle.example_counter.specs.declared.State.{State}

-- the client for which a server saves exists
abbrev pub IsPlaced : ℕ → Role → Type 0
IsPlaced hosts (Client next) = Unit {0}
IsPlaced hosts (Idle count) = Unit {0}
IsPlaced hosts (Saving count client n) = client < hosts

abbrev pub records : NodeRecords State Role
records = record {
  fits = λ before state. IsPlaced state.setup.hosts before;
  back = λ before state. record state { role = before };
}
