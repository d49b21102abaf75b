-- Packed worlds and hosts.
use Rattle.std.specs.Prelude.{◌≡◌, ℕ, List, [], ◌∷◌, map, Option}
use Rattle.sim_disk.specs.Disk.{Disk}
use Rattle.sim_world.specs.declared.host.Host.{Host}
use Rattle.sim_world.specs.declared.packed_hosts.KeptHost.{KeptHost}
use Rattle.sim_world.specs.inside.Index.{IsIndexOf}
use Rattle.sim_world.specs.Records.{InHand}
use Rattle.sim_world.specs.inside.Sound.{IsSound}

-- hosts, with the serials of their pending timers, and the numbers of their pending starts and
-- syncs
-- hosts      in the order of their numbers
-- timers     the serial of each host's pending timer
-- others     the number of each host's pending starts and syncs
pub record HostsInHand (State : Type 0) : Type 0 where
  pub hosts : List (Host State)
  pub timers : List (Option ℕ)
  pub others : List ℕ

-- packed hosts without their disks, with these disks
abbrev pub hosts_in : {State : Type 0} → List (KeptHost State) → List Disk → List (Host State)
hosts_in [] disks = []
hosts_in (k ∷ kept) [] = []
hosts_in (k ∷ kept) (d ∷ disks) =
    record { node = k.node; disk = d; done = k.done } ∷ hosts_in kept disks

abbrev pub timers_in : {State : Type 0} → List (KeptHost State) → List (Option ℕ)
timers_in kept = map (λ k. k.timer) kept

abbrev pub others_in : {State : Type 0} → List (KeptHost State) → List ℕ
others_in kept = map (λ k. k.others) kept

-- A packed world is one of a run, with the words of this seed; the counts are those of its
-- messages, and the timers, and the numbers of starts and syncs, those of its hosts.
pub record IsPacked {State Msg : Type 0} (told : State → ℕ) (key : List ℕ) (flying waiting : ℕ)
    (serials : List (Option ℕ)) (numbers : List ℕ)
    (kept : InHand State Msg) : Type 0 where
  pub sound : IsSound told kept.scenario kept.age kept.world
  pub index : IsIndexOf flying waiting serials numbers kept.world
  pub seed : key ≡ kept.scenario.seed
