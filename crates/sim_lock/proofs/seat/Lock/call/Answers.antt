use Rattle.std.proofs.Common.{◌≡◌, ap, subst, ◌∙◌}
use Rattle.std.specs.Prelude.{IfOk}
use Rattle.sim_lock.proofs.Histories.{Turned, grows_taken, called, asked_of}
use Rattle.sim_lock.proofs.seat.Lock.call.Goals as goal

pub give-requires-clause-grows : goal.give-requires-clause-grows
give-requires-clause-grows g c =
    let K = g.B.Kept in
    let seat = c.args.seat.now in
    let log = K.entries c.take-book.result in
    let new = K.entries c.turn-answer.new.self in
    let turn = c.turn-answer.ensures in
    let asked = asked_of K.session_of K.command_of seat.session c.args.command c.turn-answer.result turn.asked in
    let t : Turned K.session_of K.number_of K.tells seat.session log new c.turn-answer.result =
    record { asked = asked.0; number = turn.number; kept = turn.kept; not_taken = turn.not_taken } in
    grows_taken K.session_of K.number_of K.tells seat.raw.me.0 c.take-book.new.raw.me.0 log new c.turn-answer.result seat.one
    (ap (λ m. m.0) c.take-book.ensures.seat) (subst (λ s. Turned K.session_of K.number_of K.tells s log new c.turn-answer.result) seat.number t)

pub returns : goal.returns
returns g c =
    let K = g.B.Kept in
    let seat = c.args.seat.now in
    let log = K.entries c.take-book.result in
    let new = K.entries c.turn-answer.new.self in
    let turn = c.turn-answer.ensures in
    let asked = asked_of K.session_of K.command_of seat.session c.args.command c.turn-answer.result turn.asked in
    let t : Turned K.session_of K.number_of K.tells seat.session log new c.turn-answer.result =
    record { asked = asked.0; number = turn.number; kept = turn.kept; not_taken = turn.not_taken } in
    let took = c.take-book.ensures in
    let d = called K.session_of K.number_of K.tells seat.raw.me.0 c.take-book.new.raw.me.0 c.give.new.raw.me.0 log new c.turn-answer.result seat.one
    (ap (λ m. m.0) took.seat) (ap (λ m. m.0) c.give.ensures.seat) took.mine took.seen
    (subst (λ s. Turned K.session_of K.number_of K.tells s log new c.turn-answer.result) seat.number t) in record {
      seat = (c.give.ensures.table ∙ (took.table ∙ c.requires), d.session);
      scenario = d.scenario;
      asked = subst (λ s. IfOk c.turn-answer.result (λ e. (K.session_of e ≡ s) × (K.command_of e ≡ c.args.command))) seat.number turn.asked;
      number = d.number;
      mine = d.mine;
      last = d.last;
      not_taken = d.not_taken;
      tells = d.tells_it;
      seen = d.seen;
      receipt = d.receipt;
      receipts = d.receipts;
    }
