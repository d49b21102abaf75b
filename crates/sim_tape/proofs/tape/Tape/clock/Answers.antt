use Rattle.std.proofs.Common.{◌≡◌, ◌≤◌, ℕ, ◌+◌, ◌-◌, ◌*◌, sym, ap, ◌∙◌, subst, arith}
use Rattle.sim_world.specs.Events.{rules}
use Rattle.sim_history.specs.Log.{events_of}
use Rattle.sim_moves.specs.Places.{world_at}
use Rattle.sim_tape.specs.Tape.{Tape}
use Rattle.sim_tape.specs.Places.{world_of}
use Rattle.sim_tape.proofs.tape.Tape.clock.Goals as goal

pub returns-clause-value : goal.returns-clause-value
returns-clause-value g c =
    let i = c.self.inside in
    let r = rules g.N.Node.laws g.N.Node.PROBES i.log.scenario in
    let P : Tape → Type 0 = λ t. c.clock.result ≡ (world_of (rules g.N.Node.laws g.N.Node.PROBES t.scenario) t).clock in
    let some = c.if-self-eq0.false in
    let place : i.place - 1 + 1 ≡ i.place = omega (arith, some) in
    subst P c.self.view_is
    (c.clock.ensures ∙ c.self.invariant.0.clocks.clock (i.place - 1) c.entry.result c.entry.ensures ∙ ap {B = ℕ} (λ (p : ℕ). (world_at r p (events_of i.log.entries)).clock) place)

pub returns-clause-small : goal.returns-clause-small
returns-clause-small g c =
    subst (λ (n : ℕ). n ≤ 60000 * 65536) (sym c.clock.ensures) (c.self.invariant.0.clocks.small (c.self.inside.place - 1) c.entry.result c.entry.ensures)
