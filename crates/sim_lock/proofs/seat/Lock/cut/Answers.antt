use Rattle.std.proofs.Common.{rules, refl, length, sym, ap, subst, ◌∙◌}
use Rattle.sim_lock.specs.Rule.{first_of, rest_of, session_in, holds_in, mine_in, seen_in, ScenarioIs}
use Rattle.sim_lock.specs.Seats.{told}
use Rattle.sim_lock.proofs.Ends.{fresh_rest, fresh_first}
use Rattle.sim_lock.proofs.Steps.{cuts}
use Rattle.sim_lock.proofs.seat.Lock.cut.Goals as goal

pub split_seat-raw-requires : goal.split_seat-raw-requires
split_seat-raw-requires g c = (c.requires.table, search rules, cuts g.B.Kept.session_of g.B.Kept.scenario g.B.Kept.entries _ _ _ _)

pub invariant_of-result : goal.invariant_of-result
invariant_of-result g c =
    let e = c.split_seat-raw.ensures in
    let n = c.requires.next in
    let first = ap (λ m. m.0) e.4 ∙ (ap (λ m. first_of m.0) n.1 ∙ fresh_first (told g.B.Kept.scenario c.args.self.now) c.args.session c.args.self.now.sessions n.0) in record {
      one = ap (λ v. length v) first;
      idle = ap holds_in first;
      bare = ap (λ m. m.1) e.4;
      number = sym (ap session_in first);
    }

pub returns : goal.returns
returns g c =
    let e = c.split_seat-raw.ensures in
    let n = c.requires.next in
    let told_it = told g.B.Kept.scenario c.args.self.now in
    let first = ap (λ m. m.0) e.4 ∙ (ap (λ m. first_of m.0) n.1 ∙ fresh_first told_it c.args.session c.args.self.now.sessions n.0) in
    let left = ap (λ m. rest_of m.0) n.1 ∙ fresh_rest told_it c.args.session c.args.self.now.sessions n.0 in
    let out = ap (λ m. m.1) n.1 in record {
      table = e.0 ∙ c.requires.table;
      next = e.2 ∙ (λ i. (left i, out i));
      seat = (e.3 ∙ c.requires.table, subst (ScenarioIs told_it) (sym first) refl, ap session_in first, ap mine_in first, ap seen_in first);
    }
