use Rattle.std.proofs.Common.{◌≡◌, ℕ, ◌+◌, true, false, Option, refl, sym, ◌∙◌, subst, arith}
use Rattle.sim_runs.specs.declared.rewinds.Found.{Found}
use Rattle.sim_runs.specs.Running.{IsLast, IsLooking}
use Rattle.sim_runs.proofs.Rewinding.{looking_none, looking_same, looking_found}
use Rattle.sim_runs.proofs.Looking.{turned_none, turned_more}
use Rattle.sim_runs.proofs.Skipping.{not_found, none_on}
use Rattle.sim_runs.proofs.rewinds.last_failing.Goals as goal
use Rattle.sim_runs.proofs.rewinds.last_failing.Goals.{in-Some, in_default, then-is_some, else-is_some}

pub loop-init : goal.loop-init
loop-init g c = (
  looking_none g.N.Node.laws g.N.Node.PROBES c.args.watches.now c.args.tape.now c.found_here-last.result c.requires.warm c.found_here-last.ensures,
  turned_none (g.N.Meter.Meter.work c.args.meter.now),
  λ _. refl,
  λ some. absurd (omega (arith, some)),
)

pub loop-preserved : goal.loop-preserved
loop-preserved g c =
    let W = g.N.Meter.Meter.work in
    let is_at = λ (o : Option Found). IsLooking g.N.Node.laws g.N.Node.PROBES c.args.watches.now c.args.tape.now (c.loop.counter + 1) o c.pass.new.self in (
      elim c.match-found_here.branch [
        | in-Some w ↦ subst is_at (sym w.last-is)
            (looking_found g.N.Node.laws g.N.Node.PROBES c.args.watches.now c.args.tape.now c.loop.tape c.pass.new.self c.loop.counter c.loop.last w.in-Some.found c.loop.invariant.0
            c.in_ok-host.ensures.ok (sym w.in-Some.is ∙ c.found_here.ensures))
        | in_default w ↦ subst is_at (sym w.last-is)
            (looking_same g.N.Node.laws g.N.Node.PROBES c.args.watches.now c.args.tape.now c.loop.tape c.pass.new.self c.loop.counter c.loop.last c.found_here.result c.loop.invariant.0
            c.in_ok-host.ensures.ok w.in_default.is c.found_here.ensures)
      ],
      turned_more c.loop.counter (W c.args.meter.now) (W c.loop.meter) (W c.pass.new.meter) c.loop.invariant.1 c.in_ok-host.ensures.work,
      λ none. absurd (omega (arith, none)),
      λ _. c.pass.ensures.reach,
    )

pub returns-clause-last : goal.returns-clause-last
returns-clause-last g c =
    let all : c.args.tape.now.place + c.loop.counter + 1 ≡ c.args.tape.now.place + c.args.count + 1 = omega arith in
    subst (λ (n : ℕ). IsLast g.N.Node.laws g.N.Node.PROBES c.args.watches.now c.args.tape.now c.args.tape.now.place n c.loop.last) all c.loop.invariant.0.found

pub returns-clause-spent : goal.returns-clause-spent
returns-clause-spent g c = λ some. c.loop.invariant.3 (omega (arith, some))

pub returns-clause-still : goal.returns-clause-still
returns-clause-still g c = λ none. c.loop.invariant.2 (omega (arith, none))

pub found_here-requires-clause-unchanged : goal.found_here-requires-clause-unchanged
found_here-requires-clause-unchanged g c = λ no. (elim c.if-is_some.branch [
  | then-is_some w ↦ let bad : true ≡ false = sym w.if-is_some.true ∙ sym w.looks-is ∙ no in absurd cc
  | else-is_some w ↦
      none_on g.N.Node.laws g.N.Node.PROBES c.args.watches.now c.args.tape.now c.loop.tape c.pass.new.self c.loop.counter c.concerned-concerned.result c.in_ok-host.host c.loop.last c.loop.invariant.0
      (not_found c.loop.last (sym c.is_some.ensures ∙ w.if-is_some.false)) c.in_ok-host.ensures.ok c.concerned-concerned.ensures c.in_ok-host.ensures.only
      (w.may_differ-looks.ensures (sym w.looks-is ∙ no))
])
