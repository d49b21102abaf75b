use Rattle.std.proofs.Common.{length, Some, ◌∷◌, rules, sym, ap, subst, ◌∙◌}
use Rattle.atomic_table.specs.Table.{rest}
use Rattle.sim_lock.specs.Entries.{Grows}
use Rattle.sim_lock.specs.Rule.{session_in, seen_in, holds_in, ScenarioIs}
use Rattle.sim_lock.proofs.Steps.{gives_it}
use Rattle.sim_lock.proofs.seat.Lock.give.Goals as goal

pub store-requires : goal.store-requires
store-requires g c =
    let e = c.exchange-nothing.ensures in
    let out = c.requires.out in
    let view = ap (λ m. m.0) e.3 in
    let one = ap (λ v. length v) view ∙ out.0 in
    let has_it = ap holds_in view ∙ out.1 in
    let held = ap (λ m. m.1) e.3 ∙ ap (λ l. (0, Some c.args.book) ∷ rest l) out.2 in
    let like = subst (λ v. ScenarioIs (g.B.Kept.scenario c.args.book) v) (sym view) c.requires.scenario in
    let grows = subst (λ v. Grows g.B.Kept.session_of (session_in v) (seen_in v) (g.B.Kept.entries c.args.book)) (sym view) c.requires.grows in
    (e.0 ∙ c.requires.table, search rules, gives_it g.B.Kept.session_of g.B.Kept.scenario g.B.Kept.entries _ _ _ _ c.exchange-nothing.new.seat.me c.args.book c.args.self.now.sized.1 one has_it held like grows)
