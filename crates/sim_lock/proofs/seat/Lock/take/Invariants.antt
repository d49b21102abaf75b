use Rattle.std.proofs.Common.{◌≡◌}
use Rattle.sim_lock.proofs.seat.Lock.take.Given as goal

abbrev pub invariant-loop : goal.invariant-loop
invariant-loop g l =
    (goal.iterator-loop g).can_next l.iterator' × (goal.iterator-loop g).is_finite l.iterator'
    × (l.raw.table_id ≡ l.initial.raw.table_id) × (l.raw.me ≡ l.initial.raw.me)
