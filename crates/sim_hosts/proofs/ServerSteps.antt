-- The servers from one on, one after the other.
use Rattle.std.proofs.Common.{ℕ, suc, ◌≡◌, ◌+◌, ◌-◌, ◌<◌, true, false, List, [], ◌∷◌, ◌++◌, ap, arith, append_assoc}
use Rattle.sim_node.specs.declared.host_setup.HostSetup.{HostSetup}
use Rattle.sim_node.specs.Numbers.{numbers_from}
use Rattle.sim_node.specs.Effects.{Effect}
use Rattle.sim_hosts.specs.declared.set.HostSet.{HostSet}
use Rattle.sim_hosts.specs.Hosts.{servers_from, is_in, all_in, not_in, to_all}

pub servers_from-step : (host : ℕ) (setup : HostSetup) → host < setup.servers → servers_from host setup ≡ host ∷ servers_from (host + 1) setup
servers_from-step host setup below =
    let e : setup.servers - host ≡ suc (setup.servers - (host + 1)) = omega (arith, below) in ap (numbers_from host) e

pub all_in-step : (host : ℕ) (setup : HostSetup) (set : HostSet) → host < setup.servers → is_in set host ≡ true
    → all_in (servers_from host setup) set ≡ all_in (servers_from (host + 1) setup) set
all_in-step host setup set below member = rw (servers_from-step host setup below, member)

module _ {M : Type 0} (setup : HostSetup) (msg : M) (sent : List (Effect M)) where
  pub to_all-step : (host : ℕ) → host < setup.servers
      → (sent ++ Effect.Send host msg ∷ []) ++ to_all (servers_from (host + 1) setup) msg ≡ sent ++ to_all (servers_from host setup) msg
  to_all-step host below = rw (servers_from-step host setup below, append_assoc)

  pub missing-step : (set : HostSet) (host : ℕ) → host < setup.servers → is_in set host ≡ false
      → (sent ++ Effect.Send host msg ∷ []) ++ to_all (not_in (servers_from (host + 1) setup) set) msg ≡ sent ++ to_all (not_in (servers_from host setup) set) msg
  missing-step set host below absent = rw (servers_from-step host setup below, absent, append_assoc)

  pub missing-skip : (set : HostSet) (host : ℕ) → host < setup.servers → is_in set host ≡ true
      → sent ++ to_all (not_in (servers_from (host + 1) setup) set) msg ≡ sent ++ to_all (not_in (servers_from host setup) set) msg
  missing-skip set host below member = rw (servers_from-step host setup below, member)
