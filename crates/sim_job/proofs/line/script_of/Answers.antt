use Rattle.clap.specs.Words.{found_of, rows_of}
use Rattle.sim_job.proofs.Asked.{no_fault_plan_to_script, no_seed, no_events_to_script}
use Rattle.sim_job.proofs.line.script_of.Goals as goal

pub returns-in_err-fault_plan_of : goal.returns-in_err-fault_plan_of
returns-in_err-fault_plan_of c = rw c.from_residual.ensures (no_fault_plan_to_script (rows_of (found_of c.args.matches.now)) c.in_err-fault_plan_of.ensures)

pub returns-in_err-number_of : goal.returns-in_err-number_of
returns-in_err-number_of c = rw c.from_residual-in_err-number_of.ensures (no_seed (rows_of (found_of c.args.matches.now)) c.in_err-number_of.ensures)

pub returns-in_err-number_of-2 : goal.returns-in_err-number_of-2
returns-in_err-number_of-2 c = rw c.from_residual-in_err-number_of-2.ensures (no_events_to_script (rows_of (found_of c.args.matches.now)) c.in_err-number_of-2.ensures)
