use Rattle.sim_world.specs.Events.{rules}
use Rattle.sim_cli.specs.Turns.{course_of}
use Rattle.sim_cli.proofs.Follows.{asked_ill, asked_on, asked_well, some_kept}
use Rattle.sim_cli.proofs.following.follow_ask.Goals as goal

pub returns-then-strict-clause-follows : goal.returns-then-strict-clause-follows
returns-then-strict-clause-follows g c = (
  c.if-strict.true,
  asked_ill (rules g.N.Node.laws g.N.Node.PROBES c.args.book.now.scenario) c.args.names.now (course_of c.args.book.now) (course_of c.turn_of-turn.new.book) c.args.ask c.turn_of-turn.result c.fault_of_turn-fault.result c.turn_of-turn.ensures.takes _ c.fault_of_turn-fault.ensures c.tells_want.ensures c.if-tells_want.false
      c.in-Some.why c.in-Some.is,
)

pub returns-in-Some-clause-follows : goal.returns-in-Some-clause-follows
returns-in-Some-clause-follows g c =
    asked_on (rules g.N.Node.laws g.N.Node.PROBES c.args.book.now.scenario) c.args.names.now (course_of c.args.book.now) (course_of c.turn_of-turn.new.book) c.args.ask c.turn_of-turn.result c.fault_of_turn-fault.result c.turn_of-turn.ensures.takes _ c.fault_of_turn-fault.ensures c.tells_want.ensures c.if-tells_want.false
    c.args.strict c.if-strict.false

pub returns-clause-follows : goal.returns-clause-follows
returns-clause-follows g c =
    asked_well (rules g.N.Node.laws g.N.Node.PROBES c.args.book.now.scenario) c.args.names.now (course_of c.args.book.now) (course_of c.turn_of-turn.new.book) c.args.ask c.turn_of-turn.result c.fault_of_turn-fault.result c.turn_of-turn.ensures.takes _ c.fault_of_turn-fault.ensures c.tells_want.ensures c.if-tells_want.false
    c.args.strict c.in-None.is

pub returns-then-tells_want-clause-some : goal.returns-then-tells_want-clause-some
returns-then-tells_want-clause-some g c =
    some_kept (rules g.N.Node.laws g.N.Node.PROBES c.args.book.now.scenario) c.args.book.now c.turn_of-turn.new.book c.args.ask c.turn_of-turn.result c.turn_of-turn.ensures.takes

pub returns-then-strict-clause-some : goal.returns-then-strict-clause-some
returns-then-strict-clause-some g c =
    some_kept (rules g.N.Node.laws g.N.Node.PROBES c.args.book.now.scenario) c.args.book.now c.turn_of-turn.new.book c.args.ask c.turn_of-turn.result c.turn_of-turn.ensures.takes

pub returns-in-Some-clause-some : goal.returns-in-Some-clause-some
returns-in-Some-clause-some g c =
    some_kept (rules g.N.Node.laws g.N.Node.PROBES c.args.book.now.scenario) c.args.book.now c.turn_of-turn.new.book c.args.ask c.turn_of-turn.result c.turn_of-turn.ensures.takes

pub returns-clause-some : goal.returns-clause-some
returns-clause-some g c =
    some_kept (rules g.N.Node.laws g.N.Node.PROBES c.args.book.now.scenario) c.args.book.now c.turn_of-turn.new.book c.args.ask c.turn_of-turn.result c.turn_of-turn.ensures.takes
