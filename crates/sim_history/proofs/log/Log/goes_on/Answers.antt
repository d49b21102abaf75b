use Rattle.std.proofs.Common.{◌≡◌, ℕ, Bool, ◌+◌, ◌%◌, ◌<◌, length, sym, ap, ◌∙◌, arith, ne_eqb}
use Rattle.std.specs.Prelude.{nat_eq}
use Rattle.std.specs.Arc.{arc_value}
use Rattle.std.proofs.lemmas.Bool.{ltb-true}
use Rattle.sim_history.specs.Segments.{entries_of}
use Rattle.sim_history.specs.Log.{LogView}
use Rattle.sim_history.proofs.Joined.{length-all, ends_part}
use Rattle.sim_history.proofs.log.Log.goes_on.Goals as goal

pub returns-clause-part : goal.returns-clause-part
returns-clause-part c short =
    let i = c.self.inside in
    let k = (arc_value i.scenario).interval in
    let b = length i.last.items in
    let all = length-all entries_of k i.segments.items i.last.items c.self.invariant.1 in
    let is : c.interval.result ≡ k = c.interval.ensures.value ∙ ap (λ l. l.scenario.interval) (sym c.self.view_is) in
    let below : b + 1 < k = omega (arith, ltb-true (c.len.result + 1) c.interval.result short, c.len.ensures, is) in
    sym (ap {B = Bool} (λ (n : ℕ). nat_eq ((n + 1) % k) 0) (sym all) ∙ ap {B = Bool} (λ (l : LogView). nat_eq ((length l.entries + 1) % l.scenario.interval) 0) c.self.view_is)
    ∙ sym (ends_part (length i.segments.items) k b (omega (arith, below)))
    ∙ ne_eqb (b + 1) k (λ (e : b + 1 ≡ k). absurd (omega (arith, below, e)))
