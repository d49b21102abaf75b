use Rattle.std.proofs.Common.{◌≡◌, ℕ, List, false, length, take, sym, ap, ◌∙◌, subst, arith}
use Rattle.std.specs.Prelude.{IfOk}
use Rattle.std.proofs.lemmas.List.{take_all}
use Rattle.sim_events.specs.declared.Event.{Event}
use Rattle.sim_events.specs.Scenario.{Scenario}
use Rattle.sim_history.specs.Log.{events_of}
use Rattle.sim_history.proofs.Entries.{events-length}
use Rattle.sim_tape.specs.Tape.{Frozen}
use Rattle.sim_tape.proofs.frozen.Frozen.cold.Goals as goal

pub cold-requires-clause-within : goal.cold-requires-clause-within
cold-requires-clause-within g c =
    let many = ap (λ f. length f.events) (sym c.self.view_is) ∙ ap length c.self.invariant.2 ∙ events-length c.self.inside.log.entries in
    omega (arith, c.requires, c.len.ensures.value, many)

pub returns : goal.returns
returns g c =
    let i = c.self.inside in
    let es = events_of i.log.entries in
    let all = ap (λ (n : ℕ). take n es) (c.len.ensures.value ∙ sym (events-length i.log.entries)) ∙ take_all (length es) es (omega arith) ∙ sym c.self.invariant.2 in
    let F : Scenario → List Event → Type 0 = λ s xs. IfOk c.cold.result (λ t. t ≡ record { scenario = s; events = xs; place = c.args.place; warm = false; reach = 0 }) in
    let P : Frozen → Type 0 = λ f. F f.scenario f.events in
    subst P c.self.view_is (subst (F i.log.scenario) all c.cold.ensures)
