use Rattle.std.proofs.Common.{◌≡◌, ℕ, ◌<◌, ◌≤◌, List, Option, None, sym, ap, ◌∙◌, arith, ⊎_elim}
use Rattle.std.proofs.lemmas.Bool.{cases_lt}
use Rattle.sim_queue.specs.inside.Slots.{at}
use Rattle.sim_queue.specs.inside.Sparse.{SlotList, index_at}
use Rattle.sim_queue.proofs.Sparse.{empty_slot}
use Rattle.sim_queue.proofs.slots.Slots.empty_at_front.Goals as goal

pub returns-clause-empty : goal.returns-clause-empty
returns-clause-empty g c i below =
    let keys = c.self.inside.wheel in
    let bodies = c.self.inside.bodies.items in
    let places : List (Option ℕ) = c.self.inside.places.items in
    let read : c.as_slice-places.result.now ≡ places = c.as_slice-places.ensures.value in
    let none : index_at c.as_slice-places.result.now i ≡ None = ⊎_elim
    (λ (before : i < c.skip_blocks.result). c.skip_blocks.ensures.none i (omega arith) before)
    (λ (ge : c.skip_blocks.result ≤ i). c.next_place.ensures.none i ge below)
    (cases_lt i c.skip_blocks.result) in
    sym (ap (λ (s : SlotList _). at s.items i) c.self.view_is)
    ∙ empty_slot keys bodies places i (ap (λ (xs : List (Option ℕ)). index_at xs i) (sym read) ∙ none)
