use Rattle.std.proofs.Common.{◌≡◌, ℕ, ◌<◌, false, not, None, get_or, is_some}
use Rattle.sim_book.proofs.branch.free.Given as goal

abbrev pub invariant-loop-number : goal.invariant-loop-number
invariant-loop-number l = (j : ℕ) → j < l.number → not (is_some (get_or l.watches j None)) ≡ false
