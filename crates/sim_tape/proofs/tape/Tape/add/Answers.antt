use Rattle.std.proofs.Common.{◌≡◌, ◌≤◌, None, sym, subst}
use Rattle.sim_node.specs.Work.{Work}
use Rattle.sim_world.specs.Clock.{clock_after}
use Rattle.sim_world.specs.Events.{rules, refusal_of}
use Rattle.sim_moves.specs.Works.{Plays}
use Rattle.sim_tape.specs.Tape.{Tape}
use Rattle.sim_tape.specs.Places.{world_of}
use Rattle.sim_tape.specs.Works.{nodes_at_end}
use Rattle.sim_tape.proofs.Turning.{both_played}
use Rattle.sim_tape.proofs.tape.Tape.add.Goals as goal

pub add_warm-requires-clause-can : goal.add_warm-requires-clause-can
add_warm-requires-clause-can g c =
    let P : Tape → Type 0 = λ t. refusal_of (rules g.N.Node.laws g.N.Node.PROBES t.scenario) c.args.event (world_of (rules g.N.Node.laws g.N.Node.PROBES t.scenario) t) ≡ None in
    subst P (sym c.in_ok-make_warm.ensures.ok) c.requires.can

pub returns-in-Ok-clause-work : goal.returns-in-Ok-clause-work
returns-in-Ok-clause-work g c = λ warm.
    let W = g.N.Meter.Meter.work in
    let w = c.make_warm.ensures.warm warm in
    subst (λ (a : Work). Plays 1 (nodes_at_end (rules g.N.Node.laws g.N.Node.PROBES c.args.self.now.scenario) c.args.event c.args.self.now) a (W c.add_warm.new.meter)) w.2
    (subst (λ (t : Tape). Plays 1 (nodes_at_end (rules g.N.Node.laws g.N.Node.PROBES t.scenario) c.args.event t) (W c.make_warm.new.meter) (W c.add_warm.new.meter)) w.1 c.in-Ok.ensures.work)

pub returns-in-Ok-clause-cold : goal.returns-in-Ok-clause-cold
returns-in-Ok-clause-cold g c = λ cold.
    let W = g.N.Meter.Meter.work in
    both_played _ _ _ _ (W c.args.meter.now) (W c.make_warm.new.meter) (W c.add_warm.new.meter) (c.in_ok-make_warm.ensures.cold cold)
    (subst (λ (t : Tape). Plays 1 (nodes_at_end (rules g.N.Node.laws g.N.Node.PROBES t.scenario) c.args.event t) (W c.make_warm.new.meter) (W c.add_warm.new.meter)) c.in_ok-make_warm.ensures.ok c.in-Ok.ensures.work)

pub returns-in-Ok-clause-clock : goal.returns-in-Ok-clause-clock
returns-in-Ok-clause-clock g c =
    let P : Tape → Type 0 = λ t.
    let r = rules g.N.Node.laws g.N.Node.PROBES t.scenario in
    (world_of r c.add_warm.new.self).clock ≡ clock_after c.args.event (world_of r t) in
    subst P c.in_ok-make_warm.ensures.ok c.in-Ok.ensures.clock

pub returns-in-Ok-clause-on : goal.returns-in-Ok-clause-on
returns-in-Ok-clause-on g c =
    let P : Tape → Type 0 = λ t.
    let r = rules g.N.Node.laws g.N.Node.PROBES t.scenario in
    (world_of r t).clock ≤ (world_of r c.add_warm.new.self).clock in
    subst P c.in_ok-make_warm.ensures.ok c.in-Ok.ensures.on
