use Rattle.std.proofs.Common.{◌∙◌, ap, refl, Err}
use Rattle.sim_events.specs.Scenario.{Scenario}
use Rattle.sim_world.specs.Events.{rules}
use Rattle.sim_cli.specs.Turns.{course_of}
use Rattle.sim_cli.proofs.Follows.{at_start, at_line, at_last, at_end, at_stop, at_last_stop, follows_as}
use Rattle.sim_cli.proofs.following.follow.Goals as goal

pub loop-book-init : goal.loop-book-init
loop-book-init g c = record { scenario = refl; some = λ h. h; so = λ script e. at_start _ _ _ _ script _ e }

pub loop-book-preserved : goal.loop-book-preserved
loop-book-preserved g c = record {
  scenario = c.follow_line.ensures.scenario ∙ c.loop-book.invariant.scenario;
  some = λ h. c.follow_line.ensures.some (c.loop-book.invariant.some h);
  so = λ script e.
      at_line _ _ _ _ script _ _ _ _ _ _ c.next_line.new.line.items (c.loop-book.invariant.so script e) c.in-Line.ensures.takes c.saturating_add-number.ensures
      (rw (c.as_slice.ensures.value, c.loop-book.invariant.scenario) at c.in-Ok.ensures.follows);
}

pub returns-in-Err-clause-left : goal.returns-in-Err-clause-left
returns-in-Err-clause-left g c = λ script e.
    let kept = c.next_line.new.line.items in
    let here = course_of c.loop-book.book in
    let next = course_of c.follow_line.new.book in
    let follows = follows_as (rules g.N.Node.laws g.N.Node.PROBES c.args.book.now.scenario) (rules g.N.Node.laws g.N.Node.PROBES c.loop-book.book.scenario) c.args.names.now c.args.strict (Unit {0}) here next
    c.as_slice.result.now kept (Err c.in-Err.why) (ap (λ (s : Scenario). rules g.N.Node.laws g.N.Node.PROBES s) c.loop-book.invariant.scenario) c.as_slice.ensures.value c.in-Err.ensures.follows in
    at_stop (rules g.N.Node.laws g.N.Node.PROBES c.args.book.now.scenario) c.args.names.now c.args.strict (Unit {0}) (Unit {0}) (course_of c.args.book.now) next script here next _ _ _ _ kept c.in-Err.why c.at.result
    (c.loop-book.invariant.so script e) c.in-Line.ensures.takes c.saturating_add-number.ensures follows c.at.ensures

pub returns-in-Ok-follow_line-clause-left : goal.returns-in-Ok-follow_line-clause-left
returns-in-Ok-follow_line-clause-left g c = λ script e.
    at_last _ _ _ _ script _ _ _ _ _ c.next_line.new.line.items (c.loop-book.invariant.so script e) c.in-Last.ensures.takes
    (rw (c.as_slice-in-Last.ensures.value, c.loop-book.invariant.scenario) at c.in-Ok-follow_line.ensures.follows)

pub returns-in-Err-follow_line-clause-left : goal.returns-in-Err-follow_line-clause-left
returns-in-Err-follow_line-clause-left g c = λ script e.
    let kept = c.next_line.new.line.items in
    let here = course_of c.loop-book.book in
    let next = course_of c.follow_line-in-Last.new.book in
    let follows = follows_as (rules g.N.Node.laws g.N.Node.PROBES c.args.book.now.scenario) (rules g.N.Node.laws g.N.Node.PROBES c.loop-book.book.scenario) c.args.names.now c.args.strict (Unit {0}) here next
    c.as_slice-in-Last.result.now kept (Err c.in-Err-follow_line.why) (ap (λ (s : Scenario). rules g.N.Node.laws g.N.Node.PROBES s) c.loop-book.invariant.scenario) c.as_slice-in-Last.ensures.value c.in-Err-follow_line.ensures.follows in
    at_last_stop (rules g.N.Node.laws g.N.Node.PROBES c.args.book.now.scenario) c.args.names.now c.args.strict (Unit {0}) (Unit {0}) (course_of c.args.book.now) next script here next _ _ _ _ kept c.in-Err-follow_line.why c.at-in-Err-follow_line.result
    (c.loop-book.invariant.so script e) c.in-Last.ensures.takes c.saturating_add-number.ensures follows c.at-in-Err-follow_line.ensures

pub returns-in-End-clause-left : goal.returns-in-End-clause-left
returns-in-End-clause-left g c = λ script e.
    at_end _ _ _ _ script _ _ _ _ (c.loop-book.invariant.so script e) c.in-End.ensures.takes.0 c.in-End.ensures.takes.1
