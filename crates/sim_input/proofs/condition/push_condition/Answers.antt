use Rattle.std.proofs.Common.{◌≡◌, ◌∙◌, ◌≤◌, ap, sym, arith, length}
use Rattle.sim_watch.specs.Condition.{Cond, terms}
use Rattle.sim_watch.proofs.Joining.{many_joined}
use Rattle.sim_input.proofs.Spelled.{condition_read}
use Rattle.sim_input.proofs.condition.push_condition.Goals as goal

pub returns-clause-reads : goal.returns-clause-reads
returns-clause-reads c = λ are shown line is.
    let many : length (terms c.args.cond.now) ≡ length c.terms.result.now = ap (λ (x : Cond). length (terms x)) (sym c.terms.ensures.value) ∙ many_joined c.terms.result.now in
    let few : length (terms c.args.cond.now) ≤ 8 = omega (arith, many, c.terms.ensures.few) in
    condition_read c.args.names.now are shown c.args.cond.now line few is
