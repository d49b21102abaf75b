use Rattle.std.proofs.Common.{◌≡◌, ◌+◌, ◌||◌, Bool, sym, ap, ◌∙◌, subst, arith}
use Rattle.sim_world.specs.Events.{rules}
use Rattle.sim_shrink.specs.Passing.{IsPassing}
use Rattle.sim_shrink.proofs.Trying.{passing_on, passing_all}
use Rattle.sim_shrink.proofs.case.Case.pass.Goals as goal
use Rattle.sim_shrink.proofs.case.Case.pass.Goals.{then-has_dropped, else-has_dropped}

pub loop-from-preserved : goal.loop-from-preserved
loop-from-preserved g c =
    let case = c.args.self.now in
    let r = rules g.N.Node.laws g.N.Node.PROBES case.scenario.now in
    let first = c.args.choice.stays.items in
    let next = c.in_ok-next.next.stays.items in
    let is = c.in_ok-next.is_dropped in
    let either : c.if-has_dropped.has_dropped ≡ (c.loop-from.has_dropped || is) = elim c.if-has_dropped.branch [
      | then-has_dropped w ↦ w.has_dropped-is ∙ w.if-has_dropped.true ∙ sym (ap (λ (b : Bool). b || is) w.if-has_dropped.true)
      | else-has_dropped w ↦ w.has_dropped-is ∙ sym (ap (λ (b : Bool). b || is) w.if-has_dropped.false)
    ] in
    subst (λ (b : Bool). IsPassing r case.cond.now case.events.now c.args.size first (c.loop-from.from + 1) next b) (sym either)
    (passing_on r case.cond.now case.events.now c.args.size c.min-count.result first c.loop-from.choice.stays.items next c.loop-from.from c.loop-from.has_dropped is (λ one. omega arith)
    c.loop-from.invariant c.in_ok-next.ensures.tried)

pub returns-clause-minimal : goal.returns-clause-minimal
returns-clause-minimal g c = λ off one.
    let case = c.args.self.now in
    let r = rules g.N.Node.laws g.N.Node.PROBES case.scenario.now in
    passing_all r case.cond.now case.events.now c.args.size c.loop-from.from c.args.choice.stays.items c.loop-from.choice.stays.items c.loop-from.has_dropped (omega arith) c.loop-from.invariant off one
