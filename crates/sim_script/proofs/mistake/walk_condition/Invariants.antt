use Rattle.std.proofs.Common.{◌≡◌, ◌+◌, ◌*◌, ◌≤◌}
use Rattle.sim_script.specs.Mistakes.{total}
use Rattle.sim_script.proofs.mistake.walk_condition.Given as goal

-- a term and a joint have at most seven words, and no word was lost
abbrev pub invariant-loop-joint : goal.invariant-loop-joint
invariant-loop-joint l = record {
  from : l.fn.start.taken ≤ l.at.taken;
  taken : l.at.taken + 7 ≤ l.fn.start.taken + 7 * l._joint;
  all : total l.at.taken l.at.rest.now ≡ total l.fn.start.taken l.fn.start.rest.now;
}
