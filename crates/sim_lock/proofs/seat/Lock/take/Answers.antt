use Rattle.atomic_table.specs.Table.{rest}
use Rattle.std.proofs.Common.{Some, ◌∷◌, length, ◌+◌, suc, arith, rules, sym, ap, ◌∙◌, ◌≡◌}
use Rattle.sim_lock.specs.Rule.{session_in, holds_in}
use Rattle.sim_lock.proofs.Steps.{takes_it}
use Rattle.sim_lock.proofs.seat.Lock.take.Goals as goal

pub compare_exchange-found-requires : goal.compare_exchange-found-requires
compare_exchange-found-requires g c =
    let i = c.loop.invariant in
    let idle = c.requires.idle in
    let new : c.from.result + 1 ≡ suc (session_in c.args.raw.now.me.0) = omega (arith, c.from.ensures, c.requires.session) in (
      i.2 ∙ c.requires.table,
      search rules,
      takes_it g.B.Kept.session_of g.B.Kept.scenario g.B.Kept.entries _ _ _ _ _ c.loop.raw.me
          (ap (λ m. length m.0) i.3 ∙ idle.0)
          (ap (λ m. holds_in m.0) i.3 ∙ idle.1)
          (ap (λ m. m.1) i.3 ∙ idle.2)
          (new ∙ sym (ap (λ m. suc (session_in m.0)) i.3)),
    )

pub exchange-requires : goal.exchange-requires
exchange-requires g c =
    let e = c.compare_exchange-found.ensures in
    let found = e.2.0 c.if-found-eq0.true in
    let out = ap (λ m. m.1) found.1 in
    (e.0 ∙ (c.loop.invariant.2 ∙ c.requires.table), (Some found.0, out ∙ ap (λ l. (0, Some found.0) ∷ rest l) (sym out)))
