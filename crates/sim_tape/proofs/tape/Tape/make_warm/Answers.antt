use Rattle.std.proofs.Common.{◌≡◌, ℕ, ◌-◌, ◌%◌, false, subst}
use Rattle.std.specs.Prelude.{OnOk}
use Rattle.std.proofs.lemmas.Result.{on_ok_weaker}
use Rattle.sim_world.specs.Events.{rules}
use Rattle.sim_moves.specs.Works.{Plays}
use Rattle.sim_tape.specs.Works.{nodes_below}
use Rattle.sim_tape.proofs.Turning.{cold_within, cold_ahead}
use Rattle.sim_tape.proofs.tape.Tape.make_warm.Goals as goal

pub returns-clause-cold : goal.returns-clause-cold
returns-clause-cold g c =
    let t = c.args.self.now in
    let W = g.N.Meter.Meter.work in
    let p = c.place-place.result in
    subst (λ (p : ℕ). OnOk c.goto.result (t.warm ≡ false → Plays (t.scenario.interval - 1) (nodes_below (rules g.N.Node.laws g.N.Node.PROBES t.scenario) p t.events) (W c.args.meter.now) (W c.goto.new.meter)))
    c.place-place.ensures.value
    (on_ok_weaker c.goto.result (λ made cold. made (cold_within p t cold) (cold_ahead p t cold)) c.goto.ensures.anew)

pub returns-clause-near : goal.returns-clause-near
returns-clause-near g c =
    let t = c.args.self.now in
    let W = g.N.Meter.Meter.work in
    let p = c.place-place.result in
    subst (λ (p : ℕ). OnOk c.goto.result (t.warm ≡ false → Plays (p % t.scenario.interval) (nodes_below (rules g.N.Node.laws g.N.Node.PROBES t.scenario) p t.events) (W c.args.meter.now) (W c.goto.new.meter)))
    c.place-place.ensures.value
    (on_ok_weaker c.goto.result (λ made cold. made (cold_within p t cold) (cold_ahead p t cold)) c.goto.ensures.past)
