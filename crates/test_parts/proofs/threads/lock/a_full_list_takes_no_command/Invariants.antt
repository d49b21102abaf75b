use Rattle.sim_lock.specs.Seats.{IsOf}
use Rattle.test_parts.proofs.threads.lock.a_full_list_takes_no_command.Given as goal

abbrev pub invariant-loop : goal.invariant-loop
invariant-loop g l = IsOf l.seat l.lock
