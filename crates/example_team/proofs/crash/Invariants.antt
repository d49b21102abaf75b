use Rattle.sim_shared.specs.Sharing.{IsAt}
use Rattle.example_team.proofs.crash.Given as goal

abbrev pub invariant-loop-command : goal.invariant-loop-command
invariant-loop-command g l =
    (goal.iterator-loop-command g).can_next l.command-iterator × (goal.iterator-loop-command g).is_finite l.command-iterator × IsAt l.shared l.seat
