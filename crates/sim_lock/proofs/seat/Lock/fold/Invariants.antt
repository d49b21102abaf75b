use Rattle.std.proofs.Common.{◌≡◌, List, [], ◌++◌, vec_len}
use Rattle.sim_lock.specs.declared.seat.Seat.{Seat}
use Rattle.sim_lock.specs.Seats.{gathered}
use Rattle.sim_lock.proofs.seat.Lock.fold.Given as goal

abbrev pub invariant-loop-seat : goal.invariant-loop-seat
invariant-loop-seat g l =
    (rest : List (Seat g.row.B.Denot g.row.B-Scenario.Denot g.row.B-Command.Denot g.row.B-Entry.Denot g.row.B-NotTaken.Denot g.B.Kept))
    × (l.fn.seats.items ≡ l.seats.items ++ rest)
    × (l.raw.table_id ≡ l.self.table.shared.table_id)
    × (l.raw.me ≡ (gathered rest, []))

abbrev pub decreases-loop-seat : goal.decreases-loop-seat
decreases-loop-seat g l = vec_len l.seats
