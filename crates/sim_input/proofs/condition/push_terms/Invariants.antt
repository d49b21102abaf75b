use Rattle.std.proofs.Common.{◌+◌, take, string_bytes}
use Rattle.sim_watch.specs.Condition.{alternatives}
use Rattle.sim_input.specs.Condition.{Adds, condition_text}
use Rattle.sim_input.proofs.condition.push_terms.Given as goal

-- the terms so far are written
abbrev pub invariant-loop-joined : goal.invariant-loop-joined
invariant-loop-joined l = Adds (condition_text l.names (alternatives (take (l.joined-index + 1) l.terms))) (string_bytes l.fn.text) (string_bytes l.text)
