use Rattle.std.proofs.Common.{◌≡◌, replicate, None}
use Rattle.sim_world.proofs.start.first_index.Given as goal

abbrev pub invariant-loop-h : goal.invariant-loop-h
invariant-loop-h l = record {
  timers : l.timers.items ≡ replicate l._h None;
  others : l.others.items ≡ replicate l._h 1;
}
