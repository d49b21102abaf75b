use Rattle.std.proofs.Common.{◌≡◌, ◌-◌}
use Rattle.example_raft.specs.RaftLog.{log_from, log_on}
use Rattle.example_raft.proofs.disk.log_on.Given as goal

-- the log of all places is the log of those that are left
abbrev pub invariant-loop-place : goal.invariant-loop-place
invariant-loop-place l = log_on l.disk ≡ log_from l.disk l.place (64 - l.place) l.before l.log
