use Rattle.std.specs.Prelude.{All}
use Rattle.sim_lock.specs.Seats.{IsOf, IsReceipt}
use Rattle.test_parts.proofs.threads.lock.ask_all.Given as goal

abbrev pub invariant-loop-ask : goal.invariant-loop-ask
invariant-loop-ask g l = IsOf l.seat l.lock × All (λ r. IsReceipt l.seat r) l.receipts.items
