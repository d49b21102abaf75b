use Rattle.sim_shared.specs.Sharing.{IsAt}
use Rattle.example_team.proofs.make_branches.Given as goal

abbrev pub invariant-loop : goal.invariant-loop
invariant-loop g l = IsAt l.shared l.seat
