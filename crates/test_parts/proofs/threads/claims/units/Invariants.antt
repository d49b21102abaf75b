use Rattle.std.proofs.Common.{◌≡◌, vec_len}
use Rattle.test_parts.proofs.threads.claims.units.Given as goal

abbrev pub invariant-loop : goal.invariant-loop
invariant-loop l = vec_len l.meters ≡ l.counter
