use Rattle.sim_input.proofs.Reading.{line_read}
use Rattle.sim_input.proofs.events.push_event.Goals as goal

pub returns-in_err-push_str-in-Step-clause-reads : goal.returns-in_err-push_str-in-Step-clause-reads
returns-in_err-push_str-in-Step-clause-reads c = λ are line is. line_read c.args.names.now c.args.event line are is

pub returns-in_err-push_fault-in-Fault-clause-reads : goal.returns-in_err-push_fault-in-Fault-clause-reads
returns-in_err-push_fault-in-Fault-clause-reads c = λ are line is. line_read c.args.names.now c.args.event line are is

pub returns-in_err-push-clause-reads : goal.returns-in_err-push-clause-reads
returns-in_err-push-clause-reads c = λ are line is. line_read c.args.names.now c.args.event line are is

pub returns-clause-reads : goal.returns-clause-reads
returns-clause-reads c = λ are line is. line_read c.args.names.now c.args.event line are is
