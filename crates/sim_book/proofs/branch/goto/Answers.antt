use Rattle.sim_book.specs.Works.{Works}
use Rattle.sim_watch.specs.declared.command.Command.TheVariants as command
use Rattle.sim_book.specs.declared.Reply.{Reply}
use Rattle.std.proofs.Common.{arith, sym, subst}
use Rattle.sim_book.proofs.Turns.{goto_on}
use Rattle.sim_book.proofs.branch.goto.Goals as goal

pub returns-in-Ok-clause-turn : goal.returns-in-Ok-clause-turn
returns-in-Ok-clause-turn g c = λ ws book. goto_on g.N.Node.laws g.N.Node.PROBES c.args.tape.now c.goto.new.self book ws c.args.b c.args.place c.moved.result (omega arith) c.in-Ok.ensures.ok c.moved.ensures

pub returns-in-Ok-clause-work : goal.returns-in-Ok-clause-work
returns-in-Ok-clause-work g c =
    let W = g.N.Meter.Meter.work in
    subst (λ (x : Reply). Works g.N.Node.laws g.N.Node.PROBES (command.Goto c.args.b c.args.place) x c.args.tape.now c.goto.new.self (W c.args.meter.now) (W c.goto.new.meter)) (sym c.moved.ensures) (c.in-Ok.ensures.undos, c.in-Ok.ensures.ahead, c.in-Ok.ensures.work, c.in-Ok.ensures.anew)
