use Rattle.clap.specs.Words.{found_of, rows_of}
use Rattle.sim_job.proofs.Asked.{no_number}
use Rattle.sim_job.proofs.line.workers_of.Goals as goal

pub returns-in_err-workers : goal.returns-in_err-workers
returns-in_err-workers c = rw c.from_residual.ensures (no_number (rows_of (found_of c.args.matches.now)) c.in_err-workers.ensures)
