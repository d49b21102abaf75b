use Rattle.std.proofs.Common.{◌≡◌, take}
use Rattle.clap.specs.Words.{app_of}
use Rattle.sim_job.specs.CommandLine as line
use Rattle.sim_job.specs.Described.{with_rows}
use Rattle.sim_job.proofs.definition.with_all.Given as goal

-- the program has the subcommands so far
abbrev pub invariant-loop-row : goal.invariant-loop-row
invariant-loop-row l = app_of l.program ≡ with_rows line.bare (take l.row-index l.rows)
