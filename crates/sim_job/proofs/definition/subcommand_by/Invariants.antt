use Rattle.std.proofs.Common.{map, take}
use Rattle.sim_job.specs.CommandLine.{IsCommand, command}
use Rattle.sim_job.specs.Described.{rule_by}
use Rattle.sim_job.proofs.definition.subcommand_by.Given as goal

-- the command has the arguments so far
abbrev pub invariant-loop-arg : goal.invariant-loop-arg
invariant-loop-arg l = IsCommand (command l.fn.described.name.now (map rule_by (take l.arg-index l.args))) l.made
