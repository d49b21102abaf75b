use Rattle.std.proofs.Common.{◌≤◌, ◌-◌, ◌%◌}
use Rattle.sim_queue.proofs.Marked.{IsPassed}
use Rattle.sim_queue.proofs.wheel.least_from.Given as goal

abbrev pub invariant-loop-day : goal.invariant-loop-day
invariant-loop-day l = record {
  after : l.first_day % 256 ≤ l.day;
  passed : IsPassed l.lists.width l.lists.nodes.items l.start (l.first_day % 256) l.day l.least;
}

abbrev pub decreases-loop-day : goal.decreases-loop-day
decreases-loop-day l = l.end - l.day
