use Rattle.std.proofs.Common.{sym, ap, ◌∙◌, refl}
use Rattle.sim_watch.specs.declared.command.Command.TheVariants as command
use Rattle.sim_book.proofs.Books.{kept_turn, kept_keeps, kept_same}
use Rattle.sim_book.proofs.carry.on_branch.Goals as goal

pub returns-in-Step-clause-turn : goal.returns-in-Step-clause-turn
returns-in-Step-clause-turn g c = λ book.
    kept_turn g.N.Node.laws g.N.Node.PROBES c.args.kept.now (record { tape = c.step.new.tape; watches = c.kept.inside.watches }) c.kept.inside.tape c.step.new.tape c.kept.inside.watches c.kept.inside.watches book
    c.args.command.now _ c.step.result c.kept.view_is refl c.in-Step.is (c.step.ensures.turn c.kept.inside.watches book)

pub returns-in-Tick-clause-turn : goal.returns-in-Tick-clause-turn
returns-in-Tick-clause-turn g c = λ book.
    kept_turn g.N.Node.laws g.N.Node.PROBES c.args.kept.now (record { tape = c.tick.new.tape; watches = c.kept.inside.watches }) c.kept.inside.tape c.tick.new.tape c.kept.inside.watches c.kept.inside.watches book
    c.args.command.now _ c.tick.result c.kept.view_is refl c.in-Tick.is (c.tick.ensures.turn c.kept.inside.watches book)

pub returns-in-Cut-clause-turn : goal.returns-in-Cut-clause-turn
returns-in-Cut-clause-turn g c = λ book.
    kept_turn g.N.Node.laws g.N.Node.PROBES c.args.kept.now (record { tape = c.cut.new.tape; watches = c.kept.inside.watches }) c.kept.inside.tape c.cut.new.tape c.kept.inside.watches c.kept.inside.watches book
    c.args.command.now _ c.cut.result c.kept.view_is refl c.in-Cut.is (c.cut.ensures.turn c.kept.inside.watches book)

pub returns-in-Run-clause-turn : goal.returns-in-Run-clause-turn
returns-in-Run-clause-turn g c = λ book.
    kept_turn g.N.Node.laws g.N.Node.PROBES c.args.kept.now (record { tape = c.run.new.tape; watches = c.kept.inside.watches }) c.kept.inside.tape c.run.new.tape c.kept.inside.watches c.kept.inside.watches book
    c.args.command.now _ c.run.result c.kept.view_is refl c.in-Run.is (c.run.ensures.turn book)

pub returns-in-Freeze-clause-turn : goal.returns-in-Freeze-clause-turn
returns-in-Freeze-clause-turn g c = λ book.
    kept_turn g.N.Node.laws g.N.Node.PROBES c.args.kept.now c.args.kept.now c.kept.inside.tape c.kept.inside.tape c.kept.inside.watches c.kept.inside.watches book
    c.args.command.now _ c.freeze.result c.kept.view_is c.kept.view_is c.in-Freeze.is (c.freeze.ensures.turn c.kept.inside.watches book)

pub returns-in-Watch-clause-turn : goal.returns-in-Watch-clause-turn
returns-in-Watch-clause-turn g c = λ book.
    let hosts = c.hosts-hosts.ensures.value ∙ ap (λ s. s.setup.hosts) (sym c.requires.kept.scenario) ∙ ap (λ k. k.tape.scenario.setup.hosts) (sym c.kept.view_is) in
    let is = c.in-Watch.is ∙ ap (command.Watch c.in-Watch.b) (sym c.get.ensures) in
    kept_turn g.N.Node.laws g.N.Node.PROBES c.args.kept.now (record { tape = c.kept.inside.tape; watches = c.watch.new.watches }) c.kept.inside.tape c.kept.inside.tape c.kept.inside.watches c.watch.new.watches book
    c.args.command.now _ c.watch.result c.kept.view_is refl is (c.watch.ensures.turn book c.kept.inside.tape hosts)

pub returns-in-Watch-clause-keeps : goal.returns-in-Watch-clause-keeps
returns-in-Watch-clause-keeps g c =
    let is = c.in-Watch.is ∙ ap (command.Watch c.in-Watch.b) (sym c.get.ensures) in
    kept_keeps g.N.Node.laws g.N.Node.PROBES c.args.kept.now c.kept.inside.tape c.kept.inside.tape c.kept.inside.watches c.args.command.now _ c.watch.result c.kept.view_is is (c.watch.ensures.keeps c.kept.inside.tape)

pub returns-in-Unwatch-clause-keeps : goal.returns-in-Unwatch-clause-keeps
returns-in-Unwatch-clause-keeps g c =
    kept_keeps g.N.Node.laws g.N.Node.PROBES c.args.kept.now c.kept.inside.tape c.kept.inside.tape c.kept.inside.watches c.args.command.now _ c.unwatch.result c.kept.view_is c.in-Unwatch.is (c.unwatch.ensures.keeps c.kept.inside.tape)

pub returns-in-Step-clause-kept : goal.returns-in-Step-clause-kept
returns-in-Step-clause-kept g c = kept_same g.N.Node.PROBES c.args.scenario.now _ _ _ _ c.kept.view_is c.step.ensures.same c.requires.kept

pub returns-in-Tick-clause-kept : goal.returns-in-Tick-clause-kept
returns-in-Tick-clause-kept g c = kept_same g.N.Node.PROBES c.args.scenario.now _ _ _ _ c.kept.view_is c.tick.ensures.same c.requires.kept

pub returns-in-Run-clause-kept : goal.returns-in-Run-clause-kept
returns-in-Run-clause-kept g c = kept_same g.N.Node.PROBES c.args.scenario.now _ _ _ _ c.kept.view_is c.run.ensures.same c.requires.kept

pub returns-in-Fault-clause-kept : goal.returns-in-Fault-clause-kept
returns-in-Fault-clause-kept g c = kept_same g.N.Node.PROBES c.args.scenario.now _ _ _ _ c.kept.view_is c.fault.ensures.same c.requires.kept

pub returns-in-Back-clause-kept : goal.returns-in-Back-clause-kept
returns-in-Back-clause-kept g c = kept_same g.N.Node.PROBES c.args.scenario.now _ _ _ _ c.kept.view_is c.back.ensures.same c.requires.kept

pub returns-in-Forward-clause-kept : goal.returns-in-Forward-clause-kept
returns-in-Forward-clause-kept g c = kept_same g.N.Node.PROBES c.args.scenario.now _ _ _ _ c.kept.view_is c.forward.ensures.same c.requires.kept

pub returns-in-Goto-clause-kept : goal.returns-in-Goto-clause-kept
returns-in-Goto-clause-kept g c = kept_same g.N.Node.PROBES c.args.scenario.now _ _ _ _ c.kept.view_is c.goto.ensures.same c.requires.kept

pub returns-in-Rewind-clause-kept : goal.returns-in-Rewind-clause-kept
returns-in-Rewind-clause-kept g c = kept_same g.N.Node.PROBES c.args.scenario.now _ _ _ _ c.kept.view_is c.rewind.ensures.same c.requires.kept

pub returns-in-Cut-clause-kept : goal.returns-in-Cut-clause-kept
returns-in-Cut-clause-kept g c = kept_same g.N.Node.PROBES c.args.scenario.now _ _ _ _ c.kept.view_is c.cut.ensures.same c.requires.kept

pub returns-in-Look-clause-kept : goal.returns-in-Look-clause-kept
returns-in-Look-clause-kept g c = kept_same g.N.Node.PROBES c.args.scenario.now _ _ _ _ c.kept.view_is c.look.ensures.same c.requires.kept
