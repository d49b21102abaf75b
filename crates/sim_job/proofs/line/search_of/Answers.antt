use Rattle.clap.specs.Words.{found_of, rows_of}
use Rattle.sim_job.proofs.Asked.{no_team_to_search, no_lo, no_hi}
use Rattle.sim_job.proofs.line.search_of.Goals as goal

pub returns-in_err-team_of : goal.returns-in_err-team_of
returns-in_err-team_of c = rw c.from_residual.ensures (no_team_to_search (rows_of (found_of c.args.matches.now)) c.in_err-team_of.ensures)

pub returns-in_err-number_of : goal.returns-in_err-number_of
returns-in_err-number_of c = rw c.from_residual-in_err-number_of.ensures (no_lo (rows_of (found_of c.args.matches.now)) c.in_err-number_of.ensures)

pub returns-in_err-number_of-2 : goal.returns-in_err-number_of-2
returns-in_err-number_of-2 c = rw c.from_residual-in_err-number_of-2.ensures (no_hi (rows_of (found_of c.args.matches.now)) c.in_err-number_of-2.ensures)
