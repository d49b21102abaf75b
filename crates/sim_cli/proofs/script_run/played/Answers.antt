use Rattle.std.proofs.Common.{◌≡◌, length, refl, ap, ◌∙◌}
use Rattle.sim_events.specs.Scenario.{Scenario}
use Rattle.sim_world.specs.Events.{rules}
use Rattle.sim_book.specs.Kept.{all_shown}
use Rattle.sim_cli.specs.Turns.{beginning, course_of}
use Rattle.sim_cli.proofs.FirstRun.{fault_begun, first_left, some_first, well_begun}
use Rattle.sim_cli.proofs.script_run.played.Goals as goal

pub first_run-requires : goal.first_run-requires
first_run-requires g c = c.follow.ensures.some (some_first _ (ap all_shown c.in-Ok.ensures.branches))

pub returns-in-Err-clause-run : goal.returns-in-Err-clause-run
returns-in-Err-clause-run g c = λ script at.
    let course : course_of c.in-Ok.book ≡ beginning = λ i. record { branches = all_shown (c.in-Ok.ensures.branches i); taken = length (c.in-Ok.ensures.history i) } in
    fault_begun (rules g.N.Node.laws g.N.Node.PROBES c.args.scenario.now) (rules g.N.Node.laws g.N.Node.PROBES c.in-Ok.book.scenario) c.args.names.now c.args.strict (course_of c.in-Ok.book) script
    (ap (λ (s : Scenario). rules g.N.Node.laws g.N.Node.PROBES s) c.in-Ok.ensures.scenario) course
    (Unit {0}) (course_of c.follow.new.book) c.in-Err.stop (c.in-Err.ensures.left script at)

pub returns-in-Ok-first_run-clause-run : goal.returns-in-Ok-first_run-clause-run
returns-in-Ok-first_run-clause-run g c = λ script at.
    let course : course_of c.in-Ok.book ≡ beginning = λ i. record { branches = all_shown (c.in-Ok.ensures.branches i); taken = length (c.in-Ok.ensures.history i) } in
    let same = ap (λ (s : Scenario). rules g.N.Node.laws g.N.Node.PROBES s) c.in-Ok.ensures.scenario in
    let followed = c.in-Ok-follow.ensures.left script at in
    let is = c.in-Ok-first_run.ensures.run in (
      is.0 ∙ (c.follow.ensures.scenario ∙ c.in-Ok.ensures.scenario),
      first_left _ _ c.args.names.now c.args.scenario.now c.follow.new.book.kept _ (course_of c.follow.new.book) script c.in-Ok-first_run.frozen.events same course refl followed.0 is.1,
      well_begun _ _ c.args.names.now c.args.strict _ script same course followed.1,
    )
