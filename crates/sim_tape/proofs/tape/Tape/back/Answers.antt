use Rattle.std.proofs.Common.{◌≡◌, ℕ, ◌-◌, ◌≤◌, false, subst, arith}
use Rattle.std.specs.Prelude.{OnOk}
use Rattle.std.proofs.lemmas.Result.{on_ok_weaker}
use Rattle.sim_world.specs.Events.{rules}
use Rattle.sim_moves.specs.Works.{Plays}
use Rattle.sim_tape.specs.Tape.{is_within_reach}
use Rattle.sim_tape.specs.Works.{nodes_below}
use Rattle.sim_tape.proofs.Turning.{not_ahead}
use Rattle.sim_tape.proofs.tape.Tape.back.Goals as goal

pub returns-clause-anew : goal.returns-clause-anew
returns-clause-anew g c =
    let t = c.args.self.now in
    let W = g.N.Meter.Meter.work in
    let to : ℕ = c.place-place.result - c.args.count in
    let before : to ≤ t.place = omega (arith, c.place-place.ensures.value) in
    subst (λ (p : ℕ). OnOk c.goto.result (is_within_reach (p - c.args.count) t ≡ false → Plays (t.scenario.interval - 1) (nodes_below (rules g.N.Node.laws g.N.Node.PROBES t.scenario) (p - c.args.count) t.events) (W c.args.meter.now) (W c.goto.new.meter)))
    c.place-place.ensures.value
    (on_ok_weaker c.goto.result (λ made past. made past (not_ahead to t before)) c.goto.ensures.anew)
