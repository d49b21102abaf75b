use Rattle.std.proofs.Common.{◌≡◌, ◌-◌, drop, Some}
use Rattle.std.specs.Prelude.{slice_get}
use Rattle.sim_lock.specs.Entries.{of_session}
use Rattle.sim_lock.proofs.history.History.entry.Given as goal

abbrev pub invariant-loop-e : goal.invariant-loop-e
invariant-loop-e g l = slice_get (of_session g.B.Kept.session_of l.session (drop l.e-index l.e-items)) (l.left - 1) ≡ Some l.receipt
