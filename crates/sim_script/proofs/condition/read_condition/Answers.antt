use Rattle.std.proofs.Common.{◌≡◌, [], Some, rules}
use Rattle.sim_script.specs.Words.{words}
use Rattle.sim_script.specs.Conditions.{begins_after}
use Rattle.sim_script.proofs.Joining.{with_term, at_start, one_term, last_term}
use Rattle.sim_script.proofs.condition.read_condition.Goals as goal

pub loop-turn-init : goal.loop-turn-init
loop-turn-init c = rw c.new-cond.ensures (at_start c.args.names.now (words c.args.text.now))

pub loop-turn-preserved : goal.loop-turn-preserved
loop-turn-preserved c =
    let more : c.with_term-cond.result ≡ with_term c.loop-turn.begins c.loop-turn.cond c.in_ok-term.term = search rules in
    let next : begins_after c.in-Some.word.now ≡ Some c.in_ok-begins.begins = search rules in
    let taken = one_term c.args.names.now (words c.args.text.now) c.loop-turn.cond c.loop-turn.begins c.loop-turn.turn (words c.loop-turn.rest.now) c.loop-turn.invariant
    c.loop-turn-test.true c.in_ok-term.term (words c.in_ok-term.after.now) c.in-Some.word.now (words c.in-Some.more.now) c.in_ok-begins.begins
    c.in_ok-term.ensures c.in-Some.ensures next in
    rw more taken

pub returns-in_default : goal.returns-in_default
returns-in_default c =
    let more : c.with_term-cond.result ≡ with_term c.loop-turn.begins c.loop-turn.cond c.in_ok-term.term = search rules in
    let none : words c.in_ok-term.after.now ≡ [] = search rules in
    rw more (last_term c.args.names.now (words c.args.text.now) c.loop-turn.cond c.loop-turn.begins c.loop-turn.turn (words c.loop-turn.rest.now) c.loop-turn.invariant
    c.loop-turn-test.true c.in_ok-term.term (words c.in_ok-term.after.now) c.in_ok-term.ensures none)
