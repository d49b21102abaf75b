use Rattle.std.proofs.Common.{true, sym, ap, ◌∙◌}
use Rattle.sim_tape.specs.Tape.{with_world, at}
use Rattle.sim_runs.specs.Runs.{Move}
use Rattle.sim_runs.specs.Running.{stop_found}
use Rattle.sim_runs.proofs.Rewinding.{rewound}
use Rattle.sim_runs.proofs.rewinds.go_back.Goals as goal

pub returns-in-None-clause-stop : goal.returns-in-None-clause-stop
returns-in-None-clause-stop g c =
    sym (ap (λ (m : Move). m.stop)
    (rewound g.N.Node.laws g.N.Node.PROBES c.args.count c.args.watches.now c.args.tape.now c.in_ok-look_back.field-0 c.requires.some c.requires.within c.in_ok-look_back.ensures.last)
    ∙ ap stop_found c.in-None.is)

pub returns-in-None-clause-ok : goal.returns-in-None-clause-ok
returns-in-None-clause-ok g c =
    c.in_ok-look_back.ensures.moved
    ∙ ap (λ (m : Move). with_world true c.look_back.new.tape.reach (at m.place c.args.tape.now))
    (sym (rewound g.N.Node.laws g.N.Node.PROBES c.args.count c.args.watches.now c.args.tape.now c.in_ok-look_back.field-0 c.requires.some c.requires.within c.in_ok-look_back.ensures.last))

pub returns-in-Some-clause-stop : goal.returns-in-Some-clause-stop
returns-in-Some-clause-stop g c =
    sym (ap (λ (m : Move). m.stop)
    (rewound g.N.Node.laws g.N.Node.PROBES c.args.count c.args.watches.now c.args.tape.now c.in_ok-look_back.field-0 c.requires.some c.requires.within c.in_ok-look_back.ensures.last)
    ∙ ap stop_found c.in-Some.is)

pub returns-in-Some-clause-ok : goal.returns-in-Some-clause-ok
returns-in-Some-clause-ok g c =
    c.in_ok-look_back.ensures.moved
    ∙ ap (λ (m : Move). with_world true c.look_back.new.tape.reach (at m.place c.args.tape.now))
    (sym (rewound g.N.Node.laws g.N.Node.PROBES c.args.count c.args.watches.now c.args.tape.now c.in_ok-look_back.field-0 c.requires.some c.requires.within c.in_ok-look_back.ensures.last))
