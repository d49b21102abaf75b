use Rattle.std.proofs.Common.{◌≡◌, ◌-◌, ◌++◌, ◌∷◌, [], length, Some, ap, subst, ◌∙◌}
use Rattle.std.specs.Prelude.{IfOk, slice_get}
use Rattle.sim_lock.specs.Entries.{EndsWith}
use Rattle.sim_lock.specs.Rule.{session_in, mine_in, seen_in}
use Rattle.sim_lock.proofs.Histories.{Turned, grows_taken, called, entry_of, turned_more, gives_told, ok_more, err_more, on_err_more}
use Rattle.sim_lock.proofs.seat.Lock.freeze.Goals as goal

pub give-requires-clause-grows : goal.give-requires-clause-grows
give-requires-clause-grows g c =
    let K = g.B.Kept in
    let seat = c.args.seat.now in
    let log = K.entries c.take-book.result in
    let new = K.entries c.freeze-answer.new.self in
    let turn = c.freeze-answer.ensures in
    let r = entry_of c.freeze-answer.result in
    let t = turned_more K.session_of K.number_of K.tells K.command_of seat.session (g.B.Freezes.freezing c.args.branch) log new c.freeze-answer.result turn.asked turn.number turn.kept turn.not_taken in
    grows_taken K.session_of K.number_of K.tells seat.raw.me.0 c.take-book.new.raw.me.0 log new r seat.one (ap (λ m. m.0) c.take-book.ensures.seat)
    (subst (λ s. Turned K.session_of K.number_of K.tells s log new r) seat.number t)

pub returns : goal.returns
returns g c =
    let K = g.B.Kept in
    let seat = c.args.seat.now in
    let log = K.entries c.take-book.result in
    let new = K.entries c.freeze-answer.new.self in
    let turn = c.freeze-answer.ensures in
    let result = c.freeze-answer.result in
    let r = entry_of result in
    let t = turned_more K.session_of K.number_of K.tells K.command_of seat.session (g.B.Freezes.freezing c.args.branch) log new result turn.asked turn.number turn.kept turn.not_taken in
    let took = c.take-book.ensures in
    let v = seat.raw.me.0 in
    let w = c.give.new.raw.me.0 in
    let d = called K.session_of K.number_of K.tells v c.take-book.new.raw.me.0 w log new r seat.one (ap (λ m. m.0) took.seat) (ap (λ m. m.0) c.give.ensures.seat) took.mine took.seen
    (subst (λ s. Turned K.session_of K.number_of K.tells s log new r) seat.number t) in record {
      seat = (c.give.ensures.table ∙ (took.table ∙ c.requires), d.session);
      scenario = d.scenario;
      asked = subst (λ s. IfOk result (λ e. (K.session_of e.0 ≡ s) × (K.command_of e.0 ≡ g.B.Freezes.freezing c.args.branch))) seat.number turn.asked;
      number = ok_more (λ e. K.number_of e ≡ length (mine_in w)) result d.number;
      mine = ok_more (λ e. mine_in w ≡ mine_in v ++ e ∷ []) result d.mine;
      last = ok_more (λ e. EndsWith (seen_in w) e) result d.last;
      given = gives_told g.B.Freezes.gives v seat.one (K.scenario c.take-book.result) took.scenario result turn.given;
      not_taken = on_err_more (mine_in w ≡ mine_in v) result d.not_taken;
      tells = err_more (λ why. K.tells why (seen_in w)) result d.tells_it;
      seen = d.seen;
      receipt = ok_more (λ e. (K.session_of e ≡ session_in w) × (slice_get (mine_in w) (K.number_of e - 1) ≡ Some e)) result d.receipt;
      receipts = d.receipts;
    }
