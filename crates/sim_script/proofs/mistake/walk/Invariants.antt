use Rattle.std.proofs.Common.{◌≡◌, ◌+◌}
use Rattle.sim_script.specs.Mistakes.{total}
use Rattle.sim_script.proofs.mistake.walk.Given as goal

-- so many words were taken, and no word was lost
abbrev pub invariant-loop-expected : goal.invariant-loop-expected
invariant-loop-expected l = record {
  taken : l.at.taken ≡ l.fn.start.taken + l.expected-index;
  all : total l.at.taken l.at.rest.now ≡ total l.fn.start.taken l.fn.start.rest.now;
}
