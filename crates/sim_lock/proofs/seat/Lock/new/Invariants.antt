use Rattle.std.proofs.Common.{◌≡◌, ◌-◌, [], length}
use Rattle.sim_lock.specs.Rule.{fresh}
use Rattle.sim_lock.specs.Seats.{AreNew, told}
use Rattle.sim_lock.proofs.seat.Lock.new.Given as goal

abbrev pub invariant-loop-session : goal.invariant-loop-session
invariant-loop-session g l =
    (l.rest.table_id ≡ l.lock.table.shared.table_id)
    × (l.rest.me ≡ (fresh (told g.B.Kept.scenario l.lock) l.session (l.lock.sessions - l.session), []))
    × (length l.seats.items ≡ l.session)
    × AreNew l.lock (told g.B.Kept.scenario l.lock) l.seats.items
