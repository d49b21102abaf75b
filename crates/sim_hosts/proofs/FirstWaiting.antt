-- The first host that waits, one host after the other.
use Rattle.std.proofs.Common.{ℕ, suc, ◌≡◌, ◌+◌, ◌-◌, ◌<◌, List, Option, None, slice_index_or, ap, arith}
use Rattle.sim_hosts.specs.Waiting.{first_waiting}

module _ {A : Type 0} (waiting : List (Option A)) (host hosts : ℕ) (below : host < hosts) where
  first_waiting-suc : first_waiting waiting host (hosts - host) ≡ first_waiting waiting host (suc (hosts - (host + 1)))
  first_waiting-suc = let e : hosts - host ≡ suc (hosts - (host + 1)) = omega (arith, below) in ap (first_waiting waiting host) e

  pub first_waiting-skip : slice_index_or waiting host None ≡ None
      → first_waiting waiting host (hosts - host) ≡ first_waiting waiting (host + 1) (hosts - (host + 1))
  first_waiting-skip absent = rw (first_waiting-suc, first_waiting, absent)
