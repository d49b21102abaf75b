use Rattle.std.proofs.Common.{◌≡◌, ◌≤◌, length, take, arith, sym, ap, ◌∙◌}
use Rattle.std.proofs.lemmas.List.{length-take-le}
use Rattle.sim_watch.specs.Condition.{Cond, terms}
use Rattle.sim_watch.proofs.Joining.{many_joined}
use Rattle.sim_watch.proofs.cond.Cond.with.Goals as goal

pub returns-then-len-ge-MAX_TERMS-clause-full : goal.returns-then-len-ge-MAX_TERMS-clause-full
returns-then-len-ge-MAX_TERMS-clause-full c =
    let i = c.self.inside in
    let eight : i.len ≡ 8 = omega (arith, c.self.invariant.0, c.if-len-ge-MAX_TERMS.true) in
    let within : i.len ≤ length i.joined = omega (arith, c.self.invariant.0, c.self.invariant.1) in
    ap (λ (x : Cond). length (terms x)) (sym c.self.view_is) ∙ many_joined (take i.len i.joined) ∙ length-take-le i.len i.joined within ∙ eight

pub returns-clause-room : goal.returns-clause-room
returns-clause-room c =
    let i = c.self.inside in
    let within : i.len ≤ length i.joined = omega (arith, c.self.invariant.0, c.self.invariant.1) in
    let many : length (terms c.args.self) ≡ i.len =
    ap (λ (x : Cond). length (terms x)) (sym c.self.view_is) ∙ many_joined (take i.len i.joined) ∙ length-take-le i.len i.joined within in
    omega (arith, many, c.if-len-ge-MAX_TERMS.false)
