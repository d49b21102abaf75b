use Rattle.std.proofs.Common.{◌≡◌, ◌∙◌, ◌+◌, ◌-◌, ◌<◌, ◌≤◌, ℕ, List, length, Option, None, refl, sym, ap, subst, arith}
use Rattle.std.specs.List.{slice_get}
use Rattle.sim_events.specs.declared.Event.{Event}
use Rattle.sim_tape.specs.Tape.{Tape}
use Rattle.sim_world.specs.Events.{rules}
use Rattle.sim_log.specs.Lines.{AreLines}
use Rattle.sim_log.proofs.Telling.{is_there, no_lines, one_more, own_reach}
use Rattle.sim_log.proofs.lines.Teller.lines.Goals as goal

pub loop-place-init : goal.loop-place-init
loop-place-init g c =
    let run = c.args.run.now in
    let r = rules g.N.Node.laws g.N.Node.PROBES run.scenario in
    record {
      told = subst (λ (t : List ℕ). AreLines r run.events c.args.json c.args.first (c.args.first - c.args.first) t) (sym c.new-log.ensures.items)
          (no_lines r run.events c.args.json c.args.first);
      tape = own_reach run.scenario run.events (c.args.first - 1) 0 c.in_ok-tape.tape c.in_ok-tape.ensures.tape;
    }

pub unreachable-requires : goal.unreachable-requires
unreachable-requires g c =
    let run = c.args.run.now in
    let i = c.loop-place.place - 1 in
    let within : c.loop-place.place - 1 < length run.events = omega arith in
    let none = subst (λ (es : List Event). slice_get es i ≡ None) c.events.ensures (sym c.get.ensures ∙ c.in_default.is) in
    is_there run.events i within none

pub add_line-requires-clause-warm : goal.add_line-requires-clause-warm
add_line-requires-clause-warm g c = ap (λ (t : Tape). t.warm) c.loop-place.invariant.tape

pub add_line-requires-clause-next : goal.add_line-requires-clause-next
add_line-requires-clause-next g c =
    let within : c.loop-place.place - 1 < length c.args.run.now.events = omega arith in
    subst (λ (t : Tape). t.place < length t.events) (sym c.loop-place.invariant.tape) within

pub add_line-requires-clause-place : goal.add_line-requires-clause-place
add_line-requires-clause-place g c =
    let least : 1 ≤ c.loop-place.place = omega arith in
    let there = ap (λ (t : Tape). t.place) c.loop-place.invariant.tape in
    omega (arith, there, least)

pub loop-place-preserved : goal.loop-place-preserved
loop-place-preserved g c =
    let run = c.args.run.now in
    let inv = c.loop-place.invariant in
    let least : 1 ≤ c.args.first = omega arith in
    let from : c.args.first ≤ c.loop-place.place = omega arith in
    let both = one_more g.N.Node.laws g.N.Node.PROBES run.scenario run.events c.args.json c.args.json c.args.first c.loop-place.place
    c.loop-place.tape _ c.loop-place.log.items _ least from refl inv.told inv.tape
    c.in_ok-add_line.ensures.tape c.in_ok-add_line.ensures.line in
    record { told = both.0; tape = both.1 }

pub returns : goal.returns
returns g c =
    let run = c.args.run.now in
    let r = rules g.N.Node.laws g.N.Node.PROBES run.scenario in
    let range : c.args.first ≤ c.args.last + 1 = omega arith in
    let most : c.loop-place.place ≤ c.args.last + 1 = c.loop-place.auto.place-end range in
    let end : c.loop-place.place ≡ c.args.last + 1 = omega arith in
    subst (λ (p : ℕ). AreLines r run.events c.args.json c.args.first (p - c.args.first) c.loop-place.log.items) end c.loop-place.invariant.told
