use Rattle.std.proofs.Common.{◌≡◌, arith}
use Rattle.sim_hunt.proofs.Finds.{found_at}
use Rattle.sim_hunt.proofs.hunts.hunt_protocol.Goals as goal

pub returns-then-place-eq0-clause-answer : goal.returns-then-place-eq0-clause-answer
returns-then-place-eq0-clause-answer g c = λ script at.
    let opened = c.args.opened.now in
    let hunt = c.args.hunt.now in
    found_at script hunt.area g.L.Subjects.nodes g.L.Subject0.Node.Node.laws g.L.Subject0.Node.Node.PROBES 0 opened.protocol g.L.Protocols.listed
    c.hunt_nodes.result opened.scenario opened.names hunt.cond.now c.if-place-eq0.true c.requires.known g.met.L.Searchable.at0 (c.hunt_nodes.ensures.answer script at)

pub returns-then-place-eq1-clause-answer : goal.returns-then-place-eq1-clause-answer
returns-then-place-eq1-clause-answer g c = λ script at.
    let opened = c.args.opened.now in
    let hunt = c.args.hunt.now in
    found_at script hunt.area g.L.Subjects.nodes g.L.Subject1.Node.Node.laws g.L.Subject1.Node.Node.PROBES 1 opened.protocol g.L.Protocols.listed
    c.hunt_nodes-then-place-eq1.result opened.scenario opened.names hunt.cond.now c.if-place-eq1.true c.requires.known g.met.L.Searchable.at1 (c.hunt_nodes-then-place-eq1.ensures.answer script at)

pub returns-then-place-eq2-clause-answer : goal.returns-then-place-eq2-clause-answer
returns-then-place-eq2-clause-answer g c = λ script at.
    let opened = c.args.opened.now in
    let hunt = c.args.hunt.now in
    found_at script hunt.area g.L.Subjects.nodes g.L.Subject2.Node.Node.laws g.L.Subject2.Node.Node.PROBES 2 opened.protocol g.L.Protocols.listed
    c.hunt_nodes-then-place-eq2.result opened.scenario opened.names hunt.cond.now c.if-place-eq2.true c.requires.known g.met.L.Searchable.at2 (c.hunt_nodes-then-place-eq2.ensures.answer script at)

pub returns-then-place-eq3-clause-answer : goal.returns-then-place-eq3-clause-answer
returns-then-place-eq3-clause-answer g c = λ script at.
    let opened = c.args.opened.now in
    let hunt = c.args.hunt.now in
    found_at script hunt.area g.L.Subjects.nodes g.L.Subject3.Node.Node.laws g.L.Subject3.Node.Node.PROBES 3 opened.protocol g.L.Protocols.listed
    c.hunt_nodes-then-place-eq3.result opened.scenario opened.names hunt.cond.now c.if-place-eq3.true c.requires.known g.met.L.Searchable.at3 (c.hunt_nodes-then-place-eq3.ensures.answer script at)

pub returns-then-place-eq4-clause-answer : goal.returns-then-place-eq4-clause-answer
returns-then-place-eq4-clause-answer g c = λ script at.
    let opened = c.args.opened.now in
    let hunt = c.args.hunt.now in
    found_at script hunt.area g.L.Subjects.nodes g.L.Subject4.Node.Node.laws g.L.Subject4.Node.Node.PROBES 4 opened.protocol g.L.Protocols.listed
    c.hunt_nodes-then-place-eq4.result opened.scenario opened.names hunt.cond.now c.if-place-eq4.true c.requires.known g.met.L.Searchable.at4 (c.hunt_nodes-then-place-eq4.ensures.answer script at)

pub returns-then-place-eq5-clause-answer : goal.returns-then-place-eq5-clause-answer
returns-then-place-eq5-clause-answer g c = λ script at.
    let opened = c.args.opened.now in
    let hunt = c.args.hunt.now in
    found_at script hunt.area g.L.Subjects.nodes g.L.Subject5.Node.Node.laws g.L.Subject5.Node.Node.PROBES 5 opened.protocol g.L.Protocols.listed
    c.hunt_nodes-then-place-eq5.result opened.scenario opened.names hunt.cond.now c.if-place-eq5.true c.requires.known g.met.L.Searchable.at5 (c.hunt_nodes-then-place-eq5.ensures.answer script at)

pub returns-then-place-eq6-clause-answer : goal.returns-then-place-eq6-clause-answer
returns-then-place-eq6-clause-answer g c = λ script at.
    let opened = c.args.opened.now in
    let hunt = c.args.hunt.now in
    found_at script hunt.area g.L.Subjects.nodes g.L.Subject6.Node.Node.laws g.L.Subject6.Node.Node.PROBES 6 opened.protocol g.L.Protocols.listed
    c.hunt_nodes-then-place-eq6.result opened.scenario opened.names hunt.cond.now c.if-place-eq6.true c.requires.known g.met.L.Searchable.at6 (c.hunt_nodes-then-place-eq6.ensures.answer script at)

pub returns-else-place-eq6-clause-answer : goal.returns-else-place-eq6-clause-answer
returns-else-place-eq6-clause-answer g c = λ script at.
    let opened = c.args.opened.now in
    let hunt = c.args.hunt.now in
    let known = c.requires.known in
    let few = c.requires.few in
    let same : c.args.opened.now.protocol ≡ 7 = omega (arith, known, few) in
    found_at script hunt.area g.L.Subjects.nodes g.L.Subject7.Node.Node.laws g.L.Subject7.Node.Node.PROBES 7 opened.protocol g.L.Protocols.listed
    c.hunt_nodes-else-place-eq6.result opened.scenario opened.names hunt.cond.now same c.requires.known g.met.L.Searchable.at7 (c.hunt_nodes-else-place-eq6.ensures.answer script at)
