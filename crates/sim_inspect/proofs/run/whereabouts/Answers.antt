use Rattle.std.proofs.Common.{◌≡◌, ℕ, List, true, subst}
use Rattle.sim_events.specs.declared.Event.{Event}
use Rattle.sim_events.specs.Scenario.{Scenario}
use Rattle.sim_world.specs.Events.{rules}
use Rattle.sim_tape.specs.Tape.{Tape}
use Rattle.sim_tape.specs.Places.{world_of as world_of_tape}
use Rattle.sim_runs.specs.Branch.{world_of}
use Rattle.sim_book.specs.Book.{branch}
use Rattle.sim_book.specs.Kept.{all_shown}
use Rattle.sim_inspect.proofs.Branches.{events_here, place_within}
use Rattle.sim_inspect.proofs.run.whereabouts.Goals as goal

pub tape-requires : goal.tape-requires
tape-requires g c =
    let book = c.args.book.now in
    let whole = rw c.in-Some-2.is at c.in_ok-run.ensures in
    place_within book.scenario book.kept c.args.branch c.in-Some-2.run' whole c.place_of-place.result c.place_of-place.ensures.within

-- The tape's clock is that of the world after the run's events up to the place, which are the
-- branch's.
pub returns-clause-clock : goal.returns-clause-clock
returns-clause-clock g c =
    let book = c.args.book.now in
    let here = branch c.args.branch (all_shown book.kept) in
    let run = c.in-Some-2.run' in
    let place = c.place_of-place.result in
    let whole = rw c.in-Some-2.is at c.in_ok-run.ensures in
    let Shows : Scenario → List Event → ℕ → Type 0 = λ s es p. c.clock-2.result ≡ (world_of (rules g.N.Node.laws g.N.Node.PROBES s) (record { events = es; place = p; watches = here.watches })).clock in
    let OfTape : Tape → Type 0 = λ t. c.clock-2.result ≡ (world_of_tape (rules g.N.Node.laws g.N.Node.PROBES t.scenario) t).clock in
    let made : Tape = record { scenario = run.scenario; events = run.events; place = place; warm = true; reach = 0 } in
    let of_run : Shows run.scenario run.events place = subst OfTape {y = made} c.in_ok-tape.ensures.tape c.clock-2.ensures.value in
    let of_book : Shows book.scenario run.events place = subst (λ (s : Scenario). Shows s run.events place) whole.1 of_run in
    let of_branch : Shows book.scenario here.events place = subst (λ (es : List Event). Shows book.scenario es place) (events_here book.scenario book.kept c.args.branch run whole) of_book in
    subst (λ (p : ℕ). Shows book.scenario here.events p) {y = here.place} c.place_of-place.ensures.place of_branch
