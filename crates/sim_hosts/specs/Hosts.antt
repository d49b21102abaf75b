-- The servers, sets of hosts, and messages to many.
use Rattle.std.specs.Prelude.{ℕ, ◌-◌, ◌^◌, ◌==◌, nat_lt, nat_le, bit_or, count_ones, Bool, not}
use Rattle.std.specs.Prelude.{◌&&◌, List, filter, map}
use Rattle.std.specs.Int.{bit_at}
use Rattle.std.specs.List.{list_all}
use Rattle.sim_node.specs.declared.host_setup.HostSetup.{HostSetup}
use Rattle.sim_node.specs.Numbers.{numbers_from}
use Rattle.sim_node.specs.Effects.{Effect}
use Rattle.sim_hosts.specs.declared.set.HostSet.{HostSet}

-- the servers from `first` on: all from server 0 on, the others from server 1 on
abbrev pub servers_from : ℕ → HostSetup → List ℕ
servers_from first setup = numbers_from first (setup.servers - first)

abbrev pub servers : HostSetup → List ℕ
servers setup = servers_from 0 setup

abbrev pub others : HostSetup → List ℕ
others setup = servers_from 1 setup

-- a server other than server 0
abbrev pub is_other : HostSetup → ℕ → Bool
is_other setup host = nat_le 1 host && nat_lt host setup.servers

-- A host is in a set if its bit is set.
abbrev pub nobody : HostSet
nobody = record { bits = 0 }

abbrev pub is_in : HostSet → ℕ → Bool
is_in set host = bit_at set.bits host == 1

abbrev pub joined : ℕ → HostSet → HostSet
joined host set = record { bits = bit_or set.bits (2 ^ host) }

abbrev pub size : HostSet → ℕ
size set = count_ones set.bits

abbrev pub all_in : List ℕ → HostSet → Bool
all_in hosts set = list_all (is_in set) hosts

abbrev pub not_in : List ℕ → HostSet → List ℕ
not_in hosts set = filter (λ host. not (is_in set host)) hosts

-- a message to each of these hosts
abbrev pub to_all : {Msg : Type 0} → List ℕ → Msg → List (Effect Msg)
to_all hosts msg = map (λ host. Effect.Send host msg) hosts
