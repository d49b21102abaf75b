use Rattle.std.proofs.Common.{rules, [], ◌∷◌, ◌++◌, ap, ◌∙◌, append_assoc}
use Rattle.sim_lock.specs.Seats.{IsOf}
use Rattle.sim_lock.proofs.Steps.{joins}
use Rattle.sim_lock.proofs.Gathering.{all_at}
use Rattle.sim_lock.proofs.seat.Lock.fold.Goals as goal

pub join_seat-requires : goal.join_seat-requires
join_seat-requires g c =
    let i = c.loop-seat.invariant in
    let seat = c.in-Some-pop.seat in
    let new = c.pop-in-loop-seat.new.self.items in
    let is = i.1 ∙ (ap (λ l. l ++ i.0) c.in-Some-pop.ensures.items ∙ append_assoc new (seat ∷ []) i.0) in (
      i.2,
      all_at (λ s. IsOf s c.args.self.now) c.args.seats.items new i.0 seat is c.requires.own,
      seat.bare,
      search rules,
      joins g.B.Kept.session_of g.B.Kept.scenario g.B.Kept.entries _ _ _ _ _ _,
    )

pub loop-seat-init : goal.loop-seat-init
loop-seat-init g c =
    let last = c.in-Some.last in
    let new = c.pop.new.self.items in (
      last ∷ [],
      c.in-Some.ensures.items,
      all_at (λ s. IsOf s c.args.self.now) c.args.seats.items new [] last c.in-Some.ensures.items c.requires.own,
      λ k. (last.raw.me.0, last.bare k),
    )

pub loop-seat-preserved : goal.loop-seat-preserved
loop-seat-preserved g c =
    let i = c.loop-seat.invariant in
    let seat = c.in-Some-pop.seat in
    let new = c.pop-in-loop-seat.new.self.items in
    let is = i.1 ∙ (ap (λ l. l ++ i.0) c.in-Some-pop.ensures.items ∙ append_assoc new (seat ∷ []) i.0) in
    let e = c.join_seat.ensures in (
      seat ∷ i.0,
      is,
      e.0 ∙ i.2,
      e.2 ∙ (λ k. ((i.3 k).0 ++ seat.raw.me.0, (i.3 k).1)),
    )
