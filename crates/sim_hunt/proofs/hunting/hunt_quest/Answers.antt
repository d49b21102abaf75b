use Rattle.std.proofs.Common.{◌∙◌}
use Rattle.sim_hunt.proofs.Finds.{found_places, found_places_not, found_planned, found_planned_not, stop_status}
use Rattle.sim_hunt.proofs.hunting.hunt_quest.Goals as goal

pub returns-in-Ok-clause-answer : goal.returns-in-Ok-clause-answer
returns-in-Ok-clause-answer g c = λ script at.
    let run = c.in-Ok.ensures.run script at in
    let quest = c.args.quest.now in
    found_places g.N.Node.laws g.N.Node.PROBES script quest.opened.now.names c.search_run.result c.told.result c.in-Ok.frozen.scenario quest.opened.now.scenario
    quest.cond c.in-Ok.frozen.events c.in-Places.lo c.in-Places.hi c.in-Places.strict quest.hunt.now.area c.in-Places.is run.0 run.1 run.2 c.search_run.ensures c.told.ensures.ok

pub returns-in-Err-clause-answer : goal.returns-in-Err-clause-answer
returns-in-Err-clause-answer g c = λ script at.
    let quest = c.args.quest.now in
    found_places_not g.N.Node.laws g.N.Node.PROBES script quest.opened.now.names c.in-Err.stop c.at_stop.result quest.opened.now.scenario
    quest.cond c.in-Places.lo c.in-Places.hi c.in-Places.strict quest.hunt.now.area c.in-Places.is (c.in-Err.ensures.run script at) c.at_stop.ensures

pub returns-in-Err-clause-stops : goal.returns-in-Err-clause-stops
returns-in-Err-clause-stops g c = stop_status c.in-Err.stop c.at_stop.result c.in-Err.ensures.stops c.at_stop.ensures

pub returns-in-Ok-given_events-clause-answer : goal.returns-in-Ok-given_events-clause-answer
returns-in-Ok-given_events-clause-answer g c = λ script at.
    let given = c.in-Ok-given_events.ensures.given script at in
    let quest = c.args.quest.now in
    found_planned g.N.Node.laws g.N.Node.PROBES script quest.opened.now.names c.sweep_runs.result c.told-in-Ok-given_events.result quest.opened.now.scenario
    quest.cond c.as_slice.result.now c.in-Planned.runs quest.hunt.now.area c.in-Planned.is (c.as_slice.ensures.value ∙ given.0) given.1 c.sweep_runs.ensures c.told-in-Ok-given_events.ensures.ok

pub returns-in-Err-given_events-clause-answer : goal.returns-in-Err-given_events-clause-answer
returns-in-Err-given_events-clause-answer g c = λ script at.
    let quest = c.args.quest.now in
    found_planned_not g.N.Node.laws g.N.Node.PROBES script quest.opened.now.names c.in-Err-given_events.stop c.at_stop-in-Err-given_events.result quest.opened.now.scenario
    quest.cond c.in-Planned.runs quest.hunt.now.area c.in-Planned.is (c.in-Err-given_events.ensures.given script at) c.at_stop-in-Err-given_events.ensures

pub returns-in-Err-given_events-clause-stops : goal.returns-in-Err-given_events-clause-stops
returns-in-Err-given_events-clause-stops g c = stop_status c.in-Err-given_events.stop c.at_stop-in-Err-given_events.result c.in-Err-given_events.ensures.stops c.at_stop-in-Err-given_events.ensures
