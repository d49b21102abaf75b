use Rattle.std.proofs.Common.{◌≡◌, true, arith, sym, ap, ◌∙◌, subst}
use Rattle.sim_events.specs.declared.Event.TheVariants as event
use Rattle.sim_world.specs.Events.{rules}
use Rattle.sim_moves.specs.Works.{Plays}
use Rattle.sim_tape.specs.Tape.{Tape, with_world, with_event, reach_here}
use Rattle.sim_tape.specs.Works.{nodes_at_end}
use Rattle.sim_book.specs.Works.{Works}
use Rattle.sim_book.specs.Keeps.{Keeps}
use Rattle.sim_watch.specs.declared.command.Command.TheVariants as command
use Rattle.sim_book.specs.declared.Reply.{Reply}
use Rattle.sim_book.proofs.Turns.{fault_on, add_keeps}
use Rattle.sim_book.proofs.branch.fault.Goals as goal

pub returns-in-Ok-add-clause-turn : goal.returns-in-Ok-add-clause-turn
returns-in-Ok-add-clause-turn g c = λ ws book.
    let grown = c.in-Ok-add.ensures.ok ∙ ap (λ (v : Tape). with_world true c.add.new.self.reach (with_event (event.Fault c.args.fault) v)) c.in-Ok.ensures.ok in
    fault_on g.N.Node.laws g.N.Node.PROBES c.args.tape.now c.add.new.self book ws c.args.b c.args.fault c.moved.result (cc) (cc) (omega arith) (omega arith) grown c.moved.ensures

pub returns-in-Ok-add-clause-work : goal.returns-in-Ok-add-clause-work
returns-in-Ok-add-clause-work g c =
    let W = g.N.Meter.Meter.work in
    let warm = λ (is : c.args.tape.now.warm ≡ true). (c.make_warm.ensures.warm is).2 in
    subst (λ (x : Reply). Works g.N.Node.laws g.N.Node.PROBES (command.Fault c.args.b c.args.fault) x c.args.tape.now c.add.new.self (W c.args.meter.now) (W c.add.new.meter)) (sym c.moved.ensures)
    (record {
      made = W c.make_warm.new.meter;
      first = (warm, c.in-Ok.ensures.cold);
      last = subst (λ (t : Tape). Plays 1 (nodes_at_end (rules g.N.Node.laws g.N.Node.PROBES t.scenario) (event.Fault c.args.fault) t) (W c.make_warm.new.meter) (W c.add.new.meter)) c.in-Ok.ensures.ok
          (c.in-Ok-add.ensures.work (ap (λ (t : Tape). t.warm) c.in-Ok.ensures.ok));
    })

pub returns-in-Ok-add-clause-keeps : goal.returns-in-Ok-add-clause-keeps
returns-in-Ok-add-clause-keeps g c =
    subst (λ (x : Reply). Keeps g.N.Node.laws g.N.Node.PROBES (command.Fault c.args.b c.args.fault) x c.args.tape.now c.add.new.self) (sym c.moved.ensures)
    (add_keeps c.args.tape.now c.make_warm.new.self c.add.new.self (reach_here c.args.tape.now) c.in-Ok.ensures.ok c.in-Ok.ensures.reach
    (ap (λ (v : Tape). v.warm) c.in-Ok-add.ensures.ok) c.in-Ok-add.ensures.reach)
