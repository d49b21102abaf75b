use Rattle.sim_book.specs.Works.{Works}
use Rattle.sim_tape.specs.Tape.{reach_here}
use Rattle.std.proofs.Common.{◌≡◌, true, arith, sym, subst}
use Rattle.sim_book.proofs.Turns.{run_on, run_none, run_refused, run_keeps, run_none_keeps, here_within, busy_on, run_works, run_none_works}
use Rattle.sim_book.specs.Keeps.{Keeps}
use Rattle.sim_watch.specs.declared.command.Command.TheVariants as command
use Rattle.sim_book.specs.declared.Reply.{Reply}
use Rattle.sim_book.proofs.branch.run.Goals as goal

pub returns-in-Err-can_step-clause-turn : goal.returns-in-Err-can_step-clause-turn
returns-in-Err-can_step-clause-turn g c = λ book.
    run_refused g.N.Node.laws g.N.Node.PROBES c.args.tape.now c.make_warm.new.self book c.args.watches.now c.args.b c.args.count c.in-Err-can_step.field-0 (omega arith) (omega arith) c.in-Ok.ensures.ok c.in-Err-can_step.ensures

pub returns-then-count-eq0-clause-turn : goal.returns-then-count-eq0-clause-turn
returns-then-count-eq0-clause-turn g c = λ book.
    run_none g.N.Node.laws g.N.Node.PROBES c.args.tape.now c.make_warm.new.self book c.args.watches.now c.args.b c.args.count c.moved.result (omega arith) (omega arith) c.in-Ok.ensures.ok c.in-Ok-can_step.ensures (omega arith) c.moved.ensures

pub returns-in-Ok-run-clause-turn : goal.returns-in-Ok-run-clause-turn
returns-in-Ok-run-clause-turn g c = λ book.
    run_on g.N.Node.laws g.N.Node.PROBES c.args.tape.now c.make_warm.new.self c.run.new.tape book c.args.watches.now c.args.b c.args.count c.moved-in-Ok-run.result c.in-Ok-run.why (omega arith) (omega arith) c.in-Ok.ensures.ok c.in-Ok-can_step.ensures
    c.in-Ok-run.ensures.stop c.in-Ok-run.ensures.ok c.moved-in-Ok-run.ensures

pub returns-then-count-eq0-clause-keeps : goal.returns-then-count-eq0-clause-keeps
returns-then-count-eq0-clause-keeps g c =
    subst (λ (x : Reply). Keeps g.N.Node.laws g.N.Node.PROBES (command.Run c.args.b c.args.count) x c.args.tape.now c.make_warm.new.self) (sym c.moved.ensures)
    (run_none_keeps c.args.tape.now c.make_warm.new.self (reach_here c.args.tape.now) c.in-Ok.ensures.ok c.in-Ok.ensures.reach (here_within c.args.tape.now c.len.ensures.reach))

pub returns-in-Ok-run-clause-keeps : goal.returns-in-Ok-run-clause-keeps
returns-in-Ok-run-clause-keeps g c =
    subst (λ (x : Reply). Keeps g.N.Node.laws g.N.Node.PROBES (command.Run c.args.b c.args.count) x c.args.tape.now c.run.new.tape) (sym c.moved-in-Ok-run.ensures)
    (run_keeps c.args.tape.now c.make_warm.new.self c.run.new.tape _ (reach_here c.args.tape.now) c.in-Ok.ensures.ok c.in-Ok.ensures.reach c.in-Ok-run.ensures.ok c.in-Ok-run.ensures.reach)

pub returns-in-Err-run-clause-keeps : goal.returns-in-Err-run-clause-keeps
returns-in-Err-run-clause-keeps g c = (
  λ _. busy_on g.N.Node.laws g.N.Node.PROBES c.args.tape.now c.make_warm.new.self c.in-Ok.ensures.ok c.in-Ok-can_step.ensures,
  λ none. absurd (omega arith),
)

pub returns-then-count-eq0-clause-work : goal.returns-then-count-eq0-clause-work
returns-then-count-eq0-clause-work g c =
    let W = g.N.Meter.Meter.work in
    let warm = λ (is : c.args.tape.now.warm ≡ true). (c.make_warm.ensures.warm is).2 in
    subst (λ (x : Reply). Works g.N.Node.laws g.N.Node.PROBES (command.Run c.args.b c.args.count) x c.args.tape.now c.make_warm.new.self (W c.args.meter.now) (W c.make_warm.new.meter)) (sym c.moved.ensures)
    (record {
      made = W c.make_warm.new.meter;
      first = (warm, c.in-Ok.ensures.cold);
      last = run_none_works g.N.Node.laws g.N.Node.PROBES c.args.tape.now c.make_warm.new.self (W c.make_warm.new.meter) c.in-Ok.ensures.ok;
    })

pub returns-in-Ok-run-clause-work : goal.returns-in-Ok-run-clause-work
returns-in-Ok-run-clause-work g c =
    let W = g.N.Meter.Meter.work in
    let warm = λ (is : c.args.tape.now.warm ≡ true). (c.make_warm.ensures.warm is).2 in
    subst (λ (x : Reply). Works g.N.Node.laws g.N.Node.PROBES (command.Run c.args.b c.args.count) x c.args.tape.now c.run.new.tape (W c.args.meter.now) (W c.run.new.meter)) (sym c.moved-in-Ok-run.ensures)
    (record {
      made = W c.make_warm.new.meter;
      first = (warm, c.in-Ok.ensures.cold);
      last = run_works g.N.Node.laws g.N.Node.PROBES c.args.tape.now c.make_warm.new.self c.run.new.tape _ (W c.make_warm.new.meter) (W c.run.new.meter) c.in-Ok.ensures.ok c.in-Ok-run.ensures.ok c.in-Ok-run.ensures.work;
    })
