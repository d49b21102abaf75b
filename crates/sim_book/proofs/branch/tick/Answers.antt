use Rattle.sim_book.specs.Works.{Works}
use Rattle.sim_tape.specs.Tape.{reach_here}
use Rattle.std.proofs.Common.{◌≡◌, true, arith, sym, subst}
use Rattle.sim_book.proofs.Turns.{tick_on, run_keeps, run_works}
use Rattle.sim_book.specs.Keeps.{Keeps}
use Rattle.sim_watch.specs.declared.command.Command.TheVariants as command
use Rattle.sim_book.specs.declared.Reply.{Reply}
use Rattle.sim_book.proofs.branch.tick.Goals as goal

pub returns-in-Ok-tick-clause-turn : goal.returns-in-Ok-tick-clause-turn
returns-in-Ok-tick-clause-turn g c = λ ws book.
    tick_on g.N.Node.laws g.N.Node.PROBES c.args.tape.now c.make_warm.new.self c.tick.new.tape book ws c.args.b c.moved.result c.in-Ok-tick.why (omega arith) (omega arith) c.in-Ok.ensures.ok
    c.in-Ok-tick.ensures.stop c.in-Ok-tick.ensures.ok c.moved.ensures

pub returns-in-Ok-tick-clause-keeps : goal.returns-in-Ok-tick-clause-keeps
returns-in-Ok-tick-clause-keeps g c =
    subst (λ (x : Reply). Keeps g.N.Node.laws g.N.Node.PROBES (command.Tick c.args.b) x c.args.tape.now c.tick.new.tape) (sym c.moved.ensures)
    (run_keeps c.args.tape.now c.make_warm.new.self c.tick.new.tape _ (reach_here c.args.tape.now) c.in-Ok.ensures.ok c.in-Ok.ensures.reach c.in-Ok-tick.ensures.ok c.in-Ok-tick.ensures.reach)

pub returns-in-Ok-tick-clause-work : goal.returns-in-Ok-tick-clause-work
returns-in-Ok-tick-clause-work g c =
    let W = g.N.Meter.Meter.work in
    let warm = λ (is : c.args.tape.now.warm ≡ true). (c.make_warm.ensures.warm is).2 in
    subst (λ (x : Reply). Works g.N.Node.laws g.N.Node.PROBES (command.Tick c.args.b) x c.args.tape.now c.tick.new.tape (W c.args.meter.now) (W c.tick.new.meter)) (sym c.moved.ensures)
    (record {
      made = W c.make_warm.new.meter;
      first = (warm, c.in-Ok.ensures.cold);
      last = run_works g.N.Node.laws g.N.Node.PROBES c.args.tape.now c.make_warm.new.self c.tick.new.tape _ (W c.make_warm.new.meter) (W c.tick.new.meter) c.in-Ok.ensures.ok c.in-Ok-tick.ensures.ok c.in-Ok-tick.ensures.work;
    })
