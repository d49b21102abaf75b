use Rattle.std.proofs.Common.{rules, ◌≡◌, length, ap, subst}
use Rattle.std.specs.Slots.{slots_items}
use Rattle.sim_lock.specs.Seats.{told}
use Rattle.sim_lock.proofs.Closing.{ends, is_the_book, not_none, IsEnd, has_receipt}
use Rattle.sim_lock.proofs.seat.Lock.close.Goals as goal

pub unreachable-requires : goal.unreachable-requires
unreachable-requires g c =
    let K = g.B.Kept in
    let lock = c.args.self in
    let seats = c.args.seats.items in
    let long : length seats ≡ lock.table.shared.key.sessions = search rules in
    let e = ends K.session_of K.scenario K.entries (told K.scenario lock) lock.table.shared.key.sessions c.fold-raw.result.id c.fold-raw.result.me.0 (slots_items c.close_with-closed.result.words) (slots_items c.close_with-closed.result.slots) seats c.close_with-closed.ensures.values.2 (ap (λ m. m.0) c.fold-raw.ensures.parts) long in
    not_none (slots_items c.close_with-closed.result.slots) c.take-home.result e.0 e.1 c.take-home.ensures.value c.in_default.is

pub returns : goal.returns
returns g c =
    let K = g.B.Kept in
    let lock = c.args.self in
    let seats = c.args.seats.items in
    let long : length seats ≡ lock.table.shared.key.sessions = search rules in
    let e = ends K.session_of K.scenario K.entries (told K.scenario lock) lock.table.shared.key.sessions c.fold-raw.result.id c.fold-raw.result.me.0 (slots_items c.close_with-closed.result.words) (slots_items c.close_with-closed.result.slots) seats c.close_with-closed.ensures.values.2 (ap (λ m. m.0) c.fold-raw.ensures.parts) long in
    let same = is_the_book (slots_items c.close_with-closed.result.slots) c.take-home.result e.0 c.in-Some.book e.1 c.take-home.ensures.value c.in-Some.is in
    let d = subst (IsEnd K.session_of K.scenario K.entries (told K.scenario lock) seats) same e.2 in record {
      scenario = d.scenario_is;
      mine = λ k x lt. (d.fits k x lt).0;
      seen = λ k x lt. (d.fits k x lt).1;
      others = d.others;
      receipts = λ k x lt. has_receipt K.session_of K.number_of (K.entries c.in-Some.book) _ _ (d.fits k x lt).0;
    }
