use Rattle.std.proofs.Common.{◌≡◌, ℕ, Bool, true, ◌+◌, ◌%◌, length, sym, ap, ◌∙◌, arith}
use Rattle.std.specs.Prelude.{nat_eq, nat_lt}
use Rattle.std.specs.Arc.{arc_value}
use Rattle.std.proofs.lemmas.Bool.{ltb-true}
use Rattle.sim_history.specs.Segments.{entries_of}
use Rattle.sim_history.specs.Log.{LogView}
use Rattle.sim_history.proofs.Joined.{length-all, ends_part}
use Rattle.sim_history.proofs.log.Log.ends_interval.Goals as goal

pub returns : goal.returns
returns c =
    let i = c.self.inside in
    let k = (arc_value i.scenario).interval in
    let b = length i.last.items in
    let room : nat_lt b k ≡ true = ap (λ l. l.room) c.self.view_is ∙ c.requires in
    let all = length-all entries_of k i.segments.items i.last.items c.self.invariant.1 in
    let last : c.len.result ≡ b = omega (arith, c.len.ensures) in
    let is : c.interval.result ≡ k = c.interval.ensures.value ∙ ap (λ l. l.scenario.interval) (sym c.self.view_is) in
    ap {B = Bool} (λ (n : ℕ). nat_eq (n + 1) c.interval.result) last
    ∙ ap {B = Bool} (λ (n : ℕ). nat_eq (b + 1) n) is
    ∙ ends_part (length i.segments.items) k b (ltb-true b k room)
    ∙ ap {B = Bool} (λ (n : ℕ). nat_eq ((n + 1) % k) 0) (sym all)
    ∙ ap {B = Bool} (λ (l : LogView). nat_eq ((length l.entries + 1) % l.scenario.interval) 0) c.self.view_is
