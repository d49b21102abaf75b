use Rattle.clap.specs.Words.{found_of, rows_of}
use Rattle.sim_job.proofs.Asked.{no_from, no_to}
use Rattle.sim_job.proofs.line.log_of.Goals as goal

pub returns-in_err-option_of : goal.returns-in_err-option_of
returns-in_err-option_of c = rw c.from_residual.ensures (no_from (rows_of (found_of c.args.matches.now)) c.in_err-option_of.ensures)

pub returns-in_err-option_of-2 : goal.returns-in_err-option_of-2
returns-in_err-option_of-2 c = rw c.from_residual-in_err-option_of-2.ensures (no_to (rows_of (found_of c.args.matches.now)) c.in_err-option_of-2.ensures)
