use Rattle.std.proofs.Common.{◌≢◌, All, ℕ}
use Rattle.sim_page.proofs.data.escaped.Given as goal

-- no `<` is in the text so far
abbrev pub invariant-loop-byte : goal.invariant-loop-byte
invariant-loop-byte l = All (λ (b : ℕ). b ≢ 60) l.text.items
