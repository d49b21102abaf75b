use Rattle.std.proofs.Common.{◌≡◌, ◌++◌, length, take, sym, arith, ap, subst, ◌∙◌}
use Rattle.std.proofs.lemmas.List.{length-take}
use Rattle.sim_events.specs.Limits.{IsScenario}
use Rattle.sim_history.specs.Segments.{entries_of, joined}
use Rattle.sim_history.proofs.Joined.{AreFull-take}
use Rattle.sim_history.proofs.log.Log.split.Goals as goal

pub invariant_of-result : goal.invariant_of-result
invariant_of-result c =
    let i = c.self.invariant in
    let ss = c.self.inside.segments.items in
    let same = c.in_ok-scenario.ensures in
    let is = c.interval-interval.ensures.value ∙ ap (λ l. l.scenario.interval) (sym c.self.view_is) ∙ ap (λ s. s.interval) (sym same) in
    let last = c.in_ok-last.ensures.entries in
    let short = c.head-whole.ensures.short in
    let room = c.in_ok-last.ensures.capacity in
    let few = i.4 in
    let cut : joined c.in_ok-segments.segments.items ++ c.in_ok-last.last.items ≡ take c.args.count (joined ss ++ c.self.inside.last.items) =
    rw (c.in_ok-segments.ensures, last)
    (c.head-whole.ensures.entries ∙ ap (λ xs. take c.args.count (joined ss ++ xs)) c.as_slice.ensures.value) in (
      subst IsScenario (sym same) i.0,
      rw (c.in_ok-segments.ensures, same) (AreFull-take entries_of _ _ ss i.1),
      omega (arith, ap length last, short, is),
      omega (arith, room, is),
      omega (arith, ap length cut, length-take c.args.count (joined ss ++ c.self.inside.last.items), few),
    )
