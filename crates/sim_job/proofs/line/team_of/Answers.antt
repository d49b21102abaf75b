use Rattle.clap.specs.Words.{found_of, rows_of}
use Rattle.sim_job.proofs.Asked.{no_team}
use Rattle.sim_job.proofs.line.team_of.Goals as goal

pub returns-in_err-workers_of : goal.returns-in_err-workers_of
returns-in_err-workers_of c = rw c.from_residual.ensures (no_team (rows_of (found_of c.args.matches.now)) c.in_err-workers_of.ensures)
