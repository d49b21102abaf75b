use Rattle.std.proofs.Common.{◌≡◌}
use Rattle.test_parts.proofs.parts.echo.a_client_goes_by_its_rows.Given as goal

-- the client keeps its setup
abbrev pub invariant-loop-n : goal.invariant-loop-n
invariant-loop-n g l =
    (goal.iterator-loop-n g).can_next l.n-iterator × (goal.iterator-loop-n g).is_finite l.n-iterator × (l.node.setup.hosts ≡ 4)
