use Rattle.std.proofs.Common.{◌≡◌}
use Rattle.test_parts.proofs.parts.node.effects_go_by_their_rows.Given as goal

-- the effects stay those of four hosts
abbrev pub invariant-loop-acts : goal.invariant-loop-acts
invariant-loop-acts g l = l.effects.hosts ≡ 4
