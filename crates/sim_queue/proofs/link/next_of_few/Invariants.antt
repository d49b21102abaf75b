use Rattle.std.proofs.Common.{◌≡◌, ℕ, ◌<◌, ◌≤◌, ◌-◌, length, None}
use Rattle.sim_queue.specs.inside.Sparse.{index_at}
use Rattle.sim_queue.proofs.link.next_of_few.Given as goal

abbrev pub invariant-loop-at : goal.invariant-loop-at
invariant-loop-at l = record {
  order : l.from ≤ l.at;
  within : l.at ≤ length l.links;
  none : (i : ℕ) → l.from ≤ i → i < l.at → index_at l.links i ≡ None;
}

abbrev pub decreases-loop-at : goal.decreases-loop-at
decreases-loop-at l = length l.links - l.at
