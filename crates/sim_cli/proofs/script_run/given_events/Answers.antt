use Rattle.std.proofs.Common.{◌∙◌}
use Rattle.sim_world.specs.Events.{rules}
use Rattle.sim_cli.proofs.FirstRun.{asked, asked_fault, asked_not}
use Rattle.sim_cli.proofs.script_run.given_events.Goals as goal

pub returns-then-not-with_script-clause-given : goal.returns-then-not-with_script-clause-given
returns-then-not-with_script-clause-given g c = λ script at.
    let opened = c.args.opened.now in
    asked_not (rules g.N.Node.laws g.N.Node.PROBES opened.scenario) opened.names script c.args.with_script c.args.strict _ c.if-not-with_script.true c.new.ensures.items

pub returns-in-Err-clause-given : goal.returns-in-Err-clause-given
returns-in-Err-clause-given g c = λ script at.
    let opened = c.args.opened.now in
    asked_fault (rules g.N.Node.laws g.N.Node.PROBES opened.scenario) opened.names script c.args.with_script c.args.strict c.in-Err.stop c.if-not-with_script.false (c.in-Err.ensures.run script at)

pub returns-in-Ok-listed-clause-given : goal.returns-in-Ok-listed-clause-given
returns-in-Ok-listed-clause-given g c = λ script at.
    let opened = c.args.opened.now in
    let run = c.in-Ok.ensures.run script at in
    asked (rules g.N.Node.laws g.N.Node.PROBES opened.scenario) opened.names script c.args.with_script c.args.strict c.in-Ok-listed.events.items
    c.if-not-with_script.false (c.in-Ok-listed.ensures ∙ (c.events.ensures ∙ run.1)) run.2
