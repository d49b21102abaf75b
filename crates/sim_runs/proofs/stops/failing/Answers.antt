use Rattle.std.proofs.Common.{◌≡◌, ◌<◌, not, Some, None, get_or, length, inl, inr, sym, ap, ◌∙◌, arith}
use Rattle.std.proofs.lemmas.List.{get_or_default}
use Rattle.sim_world.specs.Events.{rules}
use Rattle.sim_runs.specs.Watches.{watch_fails}
use Rattle.sim_watch.proofs.Firsts.{find_first, find_nowhere, side}
use Rattle.sim_runs.proofs.stops.failing.Goals as goal

pub returns-then-not-holds : goal.returns-then-not-holds
returns-then-not-holds g c =
    let fails = watch_fails (rules g.N.Node.laws g.N.Node.PROBES c.args.world.now.scenario) c.args.world.now.world in
    let i = c.loop-number.number in
    let within : i < length c.args.watches.now = omega (arith, c.type_inv.watches, c.loop-number-test.true, c.requires.few) in
    let there : get_or c.args.watches.now i None ≡ Some c.in-Some.cond = get_or_default c.args.watches.now i None c.index-watches-number.result within ∙ c.in-Some.is in
    sym (find_first (λ k. fails (get_or c.args.watches.now k None)) 8 i (omega arith) (ap fails there ∙ ap not (sym c.if-not-holds.ensures)) c.loop-number.invariant)

pub returns : goal.returns
returns g c =
    let fails = watch_fails (rules g.N.Node.laws g.N.Node.PROBES c.args.world.now.scenario) c.args.world.now.world in
    sym (find_nowhere (λ k. fails (get_or c.args.watches.now k None)) 8 (λ j lt.
    elim (side j c.loop-number.number) [
      | inl before ↦ c.loop-number.invariant j before
      | inr past ↦ ap fails (c.requires.none j (omega arith))
    ]))
