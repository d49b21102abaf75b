use Rattle.sim_book.specs.Works.{Works}
use Rattle.sim_tape.specs.Tape.{reach_here}
use Rattle.std.proofs.Common.{◌≡◌, ◌-◌, true, arith, refl, sym, subst}
use Rattle.sim_book.proofs.Turns.{rewind_on, rewind_none, rewind_keeps, rewind_none_keeps, rewind_works, rewind_none_works, rewind_looks}
use Rattle.sim_runs.proofs.Looking.{looks_none}
use Rattle.sim_runs.proofs.Undoing.{undone_none, rewind_undoes}
use Rattle.sim_world.specs.Events.{rules}
use Rattle.sim_book.specs.Keeps.{Keeps}
use Rattle.sim_watch.specs.declared.command.Command.TheVariants as command
use Rattle.sim_book.specs.declared.Reply.{Reply}
use Rattle.sim_book.proofs.branch.rewind.Goals as goal

pub returns-then-count-eq0-clause-turn : goal.returns-then-count-eq0-clause-turn
returns-then-count-eq0-clause-turn g c = λ book.
    rewind_none g.N.Node.laws g.N.Node.PROBES c.args.tape.now c.make_warm.new.self book c.args.watches.now c.args.b c.args.count c.moved.result (omega arith) c.in-Ok.ensures.ok (omega arith) c.moved.ensures

pub returns-in-Ok-rewind-clause-turn : goal.returns-in-Ok-rewind-clause-turn
returns-in-Ok-rewind-clause-turn g c = λ book.
    rewind_on g.N.Node.laws g.N.Node.PROBES c.args.tape.now c.make_warm.new.self c.rewind.new.tape book c.args.watches.now c.args.b c.args.count c.moved-in-Ok-rewind.result c.in-Ok-rewind.why (omega arith) c.in-Ok.ensures.ok
    c.in-Ok-rewind.ensures.stop c.in-Ok-rewind.ensures.ok c.moved-in-Ok-rewind.ensures

pub returns-then-count-eq0-clause-keeps : goal.returns-then-count-eq0-clause-keeps
returns-then-count-eq0-clause-keeps g c =
    subst (λ (x : Reply). Keeps g.N.Node.laws g.N.Node.PROBES (command.Rewind c.args.b c.args.count) x c.args.tape.now c.make_warm.new.self) (sym c.moved.ensures)
    (rewind_none_keeps c.args.tape.now c.make_warm.new.self c.args.count c.in-Ok.ensures.ok c.in-Ok.ensures.reach)

pub returns-in-Ok-rewind-clause-keeps : goal.returns-in-Ok-rewind-clause-keeps
returns-in-Ok-rewind-clause-keeps g c =
    subst (λ (x : Reply). Keeps g.N.Node.laws g.N.Node.PROBES (command.Rewind c.args.b c.args.count) x c.args.tape.now c.rewind.new.tape) (sym c.moved-in-Ok-rewind.ensures)
    (rewind_keeps c.args.tape.now c.make_warm.new.self c.rewind.new.tape _ c.args.count c.in-Ok.ensures.ok c.in-Ok.ensures.reach c.in-Ok-rewind.ensures.ok c.in-Ok-rewind.ensures.reach)

pub returns-then-count-eq0-clause-work : goal.returns-then-count-eq0-clause-work
returns-then-count-eq0-clause-work g c =
    let W = g.N.Meter.Meter.work in
    let warm = λ (is : c.args.tape.now.warm ≡ true). (c.make_warm.ensures.warm is).2 in
    subst (λ (x : Reply). Works g.N.Node.laws g.N.Node.PROBES (command.Rewind c.args.b c.args.count) x c.args.tape.now c.make_warm.new.self (W c.args.meter.now) (W c.make_warm.new.meter)) (sym c.moved.ensures)
    (record {
      made = W c.make_warm.new.meter;
      first = (warm, c.in-Ok.ensures.cold);
      last = (
        λ _. rewind_none_works g.N.Node.laws g.N.Node.PROBES c.args.tape.now c.make_warm.new.self (W c.make_warm.new.meter) c.in-Ok.ensures.ok,
        looks_none (rules g.N.Node.laws g.N.Node.PROBES c.args.tape.now.scenario) c.make_warm.new.self.place (c.args.tape.now.place - reach_here c.args.tape.now) c.args.tape.now (W c.make_warm.new.meter),
        undone_none (rules g.N.Node.laws g.N.Node.PROBES c.args.tape.now.scenario) (reach_here c.args.tape.now) c.args.tape.now (W c.make_warm.new.meter) (W c.make_warm.new.meter) refl,
      );
    })

pub returns-in-Ok-rewind-clause-work : goal.returns-in-Ok-rewind-clause-work
returns-in-Ok-rewind-clause-work g c =
    let W = g.N.Meter.Meter.work in
    let warm = λ (is : c.args.tape.now.warm ≡ true). (c.make_warm.ensures.warm is).2 in
    subst (λ (x : Reply). Works g.N.Node.laws g.N.Node.PROBES (command.Rewind c.args.b c.args.count) x c.args.tape.now c.rewind.new.tape (W c.args.meter.now) (W c.rewind.new.meter)) (sym c.moved-in-Ok-rewind.ensures)
    (record {
      made = W c.make_warm.new.meter;
      first = (warm, c.in-Ok.ensures.cold);
      last = (
        rewind_works g.N.Node.laws g.N.Node.PROBES c.args.tape.now c.make_warm.new.self c.rewind.new.tape (W c.make_warm.new.meter) (W c.rewind.new.meter) c.in-Ok.ensures.ok c.in-Ok.ensures.reach c.in-Ok-rewind.ensures.work,
        rewind_looks g.N.Node.laws g.N.Node.PROBES c.args.tape.now c.make_warm.new.self c.rewind.new.tape (W c.make_warm.new.meter) (W c.rewind.new.meter) c.in-Ok.ensures.ok c.in-Ok.ensures.reach c.in-Ok-rewind.ensures.looks,
        rewind_undoes g.N.Node.laws g.N.Node.PROBES c.args.tape.now c.make_warm.new.self (W c.make_warm.new.meter) (W c.rewind.new.meter) c.in-Ok.ensures.ok c.in-Ok.ensures.reach c.in-Ok-rewind.ensures.undos,
      );
    })

pub returns-in-Err-rewind-clause-keeps : goal.returns-in-Err-rewind-clause-keeps
returns-in-Err-rewind-clause-keeps g c = λ none. absurd (omega arith)
