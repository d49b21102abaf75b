use Rattle.std.proofs.Common.{length, [], ◌∷◌, sym, ap, subst, arith, length-append}
use Rattle.sim_lock.specs.Seats.{told, IsNew, AreNew}
use Rattle.sim_lock.proofs.Sitting.{are_new_push}
use Rattle.sim_lock.proofs.seat.Lock.new.Goals as goal

pub loop-session-preserved : goal.loop-session-preserved
loop-session-preserved g c =
    let i = c.loop-session.invariant in
    let cut = c.cut-seat.ensures in
    let old = c.loop-session.seats.items in
    let lock = c.in_ok-lock.lock in
    let pushed = c.in_ok-push.ensures.items in
    let new = subst (λ k. IsNew lock (told g.B.Kept.scenario lock) k c.cut-seat.result) (sym i.2) cut.seat in (
      cut.table,
      cut.next,
      omega (arith, ap length pushed, length-append old (c.cut-seat.result ∷ [])),
      subst (AreNew lock (told g.B.Kept.scenario lock)) (sym pushed) (are_new_push lock (told g.B.Kept.scenario lock) old c.cut-seat.result i.3 new),
    )
