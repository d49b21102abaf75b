use Rattle.std.proofs.Common.{◌≡◌, ℕ, ◌+◌, ◌-◌, length, min, ap, ◌∙◌, arith}
use Rattle.sim_history.proofs.Entries.{events-length}
use Rattle.sim_moves.proofs.walk.Walk.anew.Goals as goal

pub returns-in-Ok-clause-ok : goal.returns-in-Ok-clause-ok
returns-in-Ok-clause-ok g c =
    let within = c.requires.within in
    record { within = omega (arith, within, events-length c.args.log.now.entries); here = c.in-Ok.ensures.here; answers = c.in-Ok.ensures.records }

pub returns-in-Ok-clause-reach : goal.returns-in-Ok-clause-reach
returns-in-Ok-clause-reach g c =
    let ring = c.give_way.new.self.ring in
    let way : ℕ = c.args.way.end - c.args.way.start in
    let none : length ring.items + way ≡ way = omega (arith, ap length c.give_way.ensures.ring) in
    c.in-Ok.ensures.reach ∙ ap (λ (n : ℕ). min ring.capacity n) none ∙ ap (λ (n : ℕ). min n way) c.give_way.ensures.capacity
