use Rattle.std.proofs.Common.{◌≡◌}
use Rattle.test_parts.proofs.parts.node.all_go.Given as goal

-- the effects stay those of four hosts
abbrev pub invariant-loop-act : goal.invariant-loop-act
invariant-loop-act l = l.effects.hosts ≡ 4
