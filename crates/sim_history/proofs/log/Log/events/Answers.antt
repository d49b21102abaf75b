use Rattle.std.proofs.Common.{ℕ, take, ap, ◌∙◌, sym, subst}
use Rattle.std.proofs.Math.Seq.{take-length}
use Rattle.sim_history.specs.Segments.{AreSegments}
use Rattle.sim_history.proofs.log.Log.events.Goals as goal

pub of-requires-clause-full : goal.of-requires-clause-full
of-requires-clause-full c =
    let ss = c.self.inside.segments.items in
    let is = c.interval.ensures.value ∙ ap (λ l. l.scenario.interval) (sym c.self.view_is) in
    let all = c.in_ok-segments.ensures ∙ ap (λ n. take n ss) c.len.ensures ∙ take-length ss in
    rw all (subst (λ (k : ℕ). AreSegments k ss) (sym is) c.self.invariant.1)
