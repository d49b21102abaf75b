use Rattle.clap.specs.Words.{found_of, rows_of}
use Rattle.sim_job.proofs.Asked.{no_team_to_sweep, no_fault_plan_to_sweep, no_first, no_count, no_events_to_sweep}
use Rattle.sim_job.proofs.line.sweep_of.Goals as goal

pub returns-in_err-team_of : goal.returns-in_err-team_of
returns-in_err-team_of c = rw c.from_residual.ensures (no_team_to_sweep (rows_of (found_of c.args.matches.now)) c.in_err-team_of.ensures)

pub returns-in_err-fault_plan_of : goal.returns-in_err-fault_plan_of
returns-in_err-fault_plan_of c = rw c.from_residual-in_err-fault_plan_of.ensures (no_fault_plan_to_sweep (rows_of (found_of c.args.matches.now)) c.in_err-fault_plan_of.ensures)

pub returns-in_err-number_of : goal.returns-in_err-number_of
returns-in_err-number_of c = rw c.from_residual-in_err-number_of.ensures (no_first (rows_of (found_of c.args.matches.now)) c.in_err-number_of.ensures)

pub returns-in_err-number_of-2 : goal.returns-in_err-number_of-2
returns-in_err-number_of-2 c = rw c.from_residual-in_err-number_of-2.ensures (no_count (rows_of (found_of c.args.matches.now)) c.in_err-number_of-2.ensures)

pub returns-in_err-number_of-3 : goal.returns-in_err-number_of-3
returns-in_err-number_of-3 c = rw c.from_residual-in_err-number_of-3.ensures (no_events_to_sweep (rows_of (found_of c.args.matches.now)) c.in_err-number_of-3.ensures)
