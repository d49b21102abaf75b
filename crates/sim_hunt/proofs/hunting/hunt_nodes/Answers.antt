use Rattle.std.proofs.Common.{None, Option, ◌≡◌}
use Rattle.sim_world.specs.Events.{rules}
use Rattle.sim_watch.specs.Condition.{Cond}
use Rattle.sim_script.specs.Script.{words}
use Rattle.sim_script.specs.Conditions.{condition}
use Rattle.sim_hunt.proofs.Finds.{found_words, no_words}
use Rattle.sim_hunt.proofs.hunting.hunt_nodes.Goals as goal

pub returns-clause-answer : goal.returns-clause-answer
returns-clause-answer g c = λ script at.
    let opened = c.args.opened.now in
    found_words (rules g.N.Node.laws g.N.Node.PROBES opened.scenario) opened.names script c.args.hunt.now.area c.hunt_quest.result c.in-Some.cond
    c.as_bytes.result.now c.args.hunt.now.cond.now c.as_bytes.ensures.value c.in-Some.ensures.is (c.hunt_quest.ensures.answer script at)

pub returns-in_default-clause-answer : goal.returns-in_default-clause-answer
returns-in_default-clause-answer g c = λ script at.
    let opened = c.args.opened.now in
    let none : ◌≡◌ {A = Option Cond} None (condition opened.names (words c.as_bytes.result.now)) =
    (let a = c.in_default.is in let b = c.in_default.ensures.is in let d = c.condition_of.ensures.is in cc) in
    no_words (rules g.N.Node.laws g.N.Node.PROBES opened.scenario) opened.names script c.args.hunt.now.area
    c.as_bytes.result.now c.args.hunt.now.cond.now c.as_bytes.ensures.value none
