use Rattle.std.proofs.Common.{◌≡◌, ℕ, ◌+◌, IfOk, Option, subst}
use Rattle.sim_sweep.proofs.Scanning.{scan_is}
use Rattle.sim_sweep.proofs.seeds.RunsPiecesMeter.scan.Goals as goal

pub returns : goal.returns
returns g c =
    let runs = c.args.self.now in
    let course = runs.course.now in
    subst (λ (z : Option ℕ). IfOk c.scan_planned.result (λ (r : Option ℕ). r ≡ z))
    (scan_is g.N.Node.laws g.N.Node.PROBES runs.cond.now course.scenario.now c.numbered-scenario.result (runs.first + c.args.number) course.given.now c.new-planner.result course.plan
    c.numbered-scenario.ensures c.new-planner.ensures.events) c.scan_planned.ensures.place
