use Rattle.sim_shared.specs.Sharing.{IsAt}
use Rattle.test_runs.proofs.shared.crowds.look_on.Given as goal

abbrev pub invariant-loop : goal.invariant-loop
invariant-loop g l = IsAt l.shared l.seat
