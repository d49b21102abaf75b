-- The exit status of a command line that makes no request.
use Rattle.std.specs.Prelude.{ℕ}
use Rattle.sim_job.specs.declared.line.LineError.{LineError}
use Rattle.sim_job.specs.declared.line.LineError.TheVariants as line_fault

abbrev pub status_of : LineError → ℕ
status_of (line_fault.Help text) = 0
status_of (line_fault.Usage text) = 2
status_of line_fault.NoMemory = 4
