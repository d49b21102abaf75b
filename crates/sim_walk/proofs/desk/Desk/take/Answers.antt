use Rattle.std.proofs.Common.{◌≡◌, ℕ, ◌≤◌, length, sym, ap, ◌∙◌, subst}
use Rattle.sim_book.specs.Book.{branch}
use Rattle.sim_watch.specs.Commands.{branch_of}
use Rattle.sim_book.specs.Kept.{all_shown}
use Rattle.sim_walk.proofs.Replying.{answered}
use Rattle.sim_walk.proofs.desk.Desk.take.Goals as goal

pub returns-clause-turn : goal.returns-clause-turn
returns-clause-turn g c =
    answered g.N.Node.laws g.N.Node.PROBES c.args.self.now.opened.now.names c.args.book.now c.turn_on-turn.new.book c.args.command c.branch-number.result c.place_of-from.result
    c.turn_on-turn.result (record { reply = c.in_ok-reply.reply; account = c.in_ok-account.account }) c.turn_on-turn.ensures.scenario c.branch-number.ensures
    c.place_of-from.ensures.place c.turn_on-turn.ensures.takes c.in_ok-reply.ensures c.in_ok-account.ensures

pub account-requires-clause-from : goal.account-requires-clause-from
account-requires-clause-from g c =
    let old = c.args.book.now.kept in
    let new = c.turn_on-turn.new.book.kept in
    let same = c.branch-number.ensures in
    let at : c.place_of-from.result ≡ (branch (branch_of c.args.command) (all_shown old)).place =
    c.place_of-from.ensures.place ∙ ap (λ (k : ℕ). (branch k (all_shown old)).place) same in
    subst (λ (k : ℕ). c.place_of-from.result ≤ length (branch k (all_shown new)).events) (sym same)
    (subst (λ (p : ℕ). p ≤ length (branch (branch_of c.args.command) (all_shown new)).events) (sym at) c.turn_on-turn.ensures.from)
