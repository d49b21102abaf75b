use Rattle.clap.specs.Words.{found_of, rows_of}
use Rattle.sim_job.proofs.Asked.{no_faults, no_quiet}
use Rattle.sim_job.proofs.line.fault_plan_of.Goals as goal

pub returns-in_err-option_of : goal.returns-in_err-option_of
returns-in_err-option_of c = rw c.from_residual.ensures (no_faults (rows_of (found_of c.args.matches.now)) c.in_err-option_of.ensures)

pub returns-in_err-number_of : goal.returns-in_err-number_of
returns-in_err-number_of c = rw c.from_residual-in_err-number_of.ensures (no_quiet (rows_of (found_of c.args.matches.now)) c.in_err-number_of.ensures)
