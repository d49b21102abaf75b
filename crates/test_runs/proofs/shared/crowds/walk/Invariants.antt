use Rattle.sim_shared.specs.Sharing.{IsAt}
use Rattle.test_runs.proofs.shared.crowds.walk.Given as goal

abbrev pub invariant-loop-turn : goal.invariant-loop-turn
invariant-loop-turn g l = IsAt l.shared l.seat
