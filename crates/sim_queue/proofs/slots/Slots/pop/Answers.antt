use Rattle.std.proofs.Common.{◌≡◌, ℕ, ◌<◌, ◌-◌, ◌+◌, List, [], ◌∷◌, ◌++◌, Option, Some, None, sym, ap, subst, ◌∙◌, length, arith, vec_len}
use Rattle.std.proofs.Math.ListN.{get_or, set, length-set}
use Rattle.std.proofs.lemmas.List.{length_push}
use Rattle.std.specs.Option.{option_map, option_to_list}
use Rattle.sim_queue.specs.Items.{item_of}
use Rattle.sim_queue.specs.inside.Slots.{at}
use Rattle.sim_queue.specs.inside.Sparse.{SlotList, IsSparse, slots_of, index_at}
use Rattle.sim_queue.proofs.Sparse.{spot_within, spot_cleared, length_slots, shortened_slots, shortened_sparse, no_index, last_taken, dropped}
use Rattle.sim_queue.proofs.Views.{entry_is}
use Rattle.sim_queue.proofs.slots.Slots.pop.Goals as goal

-- the last place, whose slot was cleared, is dropped
emptied : {B : Type 0} (keys : List (Option (ℕ × ℕ))) (bodies : List (Option B)) (places new : List (Option ℕ)) (base count len : ℕ) (slots : List (Option (ℕ × B))) (e : ℕ × B) (r : Option (Option ℕ))
    → IsSparse keys bodies places base count → slots_of keys bodies places ≡ set slots (length slots - 1) None → at slots (length slots - 1) ≡ Some e → len ≡ length places
    → (0 < len → r ≡ Some (get_or places (len - 1) None)) → places ≡ new ++ option_to_list r → places ≡ new ++ None ∷ []
emptied keys bodies places new base count len slots e r sparse is here all value rest =
    let lengths : length places ≡ length slots = sym (length_slots keys bodies places) ∙ ap (λ s. length s) is ∙ length-set slots (length slots - 1) None in
    let cleared = no_index keys bodies places base count (length slots - 1) sparse (ap (λ s. at s (length slots - 1)) is ∙ spot_cleared (length slots - 1) slots) in
    let none : index_at places (length places - 1) ≡ None = rw lengths cleared in
    let within = spot_within slots (length slots - 1) e here in
    let some : 0 < len = omega arith in
    let last : r ≡ Some (get_or places (length places - 1) None) = rw (← all) (value some) in
    dropped places new r last none rest

serial_last : (serial base old n m k : ℕ) → serial ≡ old + (n - 1) → base ≡ old → n ≡ m + 1 → k ≡ m → serial ≡ base + k
serial_last serial base old n m k is same more left = omega arith

pub invariant_of-self : goal.invariant_of-self
invariant_of-self g c =
    let keys = c.self.inside.wheel in
    let bodies = c.self.inside.bodies.items in
    let count = c.self.inside.count in
    let places = c.self.inside.places.items in
    let slots : slots_of keys bodies places ≡ set c.args.self.now.items (length c.args.self.now.items - 1) None =
    ap (λ (s : SlotList _). s.items) c.self.view_is ∙ c.take.ensures.rest ∙ ap (λ (n : ℕ). set c.args.self.now.items (n - 1) None) c.len-last.ensures in
    let taken : Some c.unwrap-taken.result ≡ option_map (item_of (c.args.self.now.base + (length c.args.self.now.items - 1))) (at c.args.self.now.items (length c.args.self.now.items - 1)) =
    sym c.unwrap-taken.ensures ∙ c.take.ensures.item ∙ ap (λ (n : ℕ). option_map (item_of (c.args.self.now.base + (n - 1))) (at c.args.self.now.items (n - 1))) c.len-last.ensures in
    let entry = entry_is _ _ c.unwrap-taken.result taken in
    let e = emptied keys bodies places c.pop.new.self.items c.self.inside.base count (vec_len c.self.inside.places) c.args.self.now.items (c.unwrap-taken.result.due, c.unwrap-taken.result.body)
    c.pop.result c.self.invariant slots entry.0 c.self.inside.places.ok.0 (c.pop.ensures.value None) c.pop.ensures.items in
    shortened_sparse keys bodies c.pop.new.self.items c.self.inside.base count (subst (λ xs. IsSparse keys bodies xs c.self.inside.base count) e c.self.invariant)

pub returns-clause-items : goal.returns-clause-items
returns-clause-items g c =
    let keys = c.self.inside.wheel in
    let bodies = c.self.inside.bodies.items in
    let count = c.self.inside.count in
    let places = c.self.inside.places.items in
    let slots : slots_of keys bodies places ≡ set c.args.self.now.items (length c.args.self.now.items - 1) None =
    ap (λ (s : SlotList _). s.items) c.self.view_is ∙ c.take.ensures.rest ∙ ap (λ (n : ℕ). set c.args.self.now.items (n - 1) None) c.len-last.ensures in
    let taken : Some c.unwrap-taken.result ≡ option_map (item_of (c.args.self.now.base + (length c.args.self.now.items - 1))) (at c.args.self.now.items (length c.args.self.now.items - 1)) =
    sym c.unwrap-taken.ensures ∙ c.take.ensures.item ∙ ap (λ (n : ℕ). option_map (item_of (c.args.self.now.base + (n - 1))) (at c.args.self.now.items (n - 1))) c.len-last.ensures in
    let entry = entry_is _ _ c.unwrap-taken.result taken in
    let e = emptied keys bodies places c.pop.new.self.items c.self.inside.base count (vec_len c.self.inside.places) c.args.self.now.items (c.unwrap-taken.result.due, c.unwrap-taken.result.body)
    c.pop.result c.self.invariant slots entry.0 c.self.inside.places.ok.0 (c.pop.ensures.value None) c.pop.ensures.items in
    last_taken c.args.self.now.items (slots_of keys bodies c.pop.new.self.items) (c.unwrap-taken.result.due, c.unwrap-taken.result.body) entry.0
    (sym slots ∙ ap (λ xs. slots_of keys bodies xs) e ∙ shortened_slots keys bodies c.pop.new.self.items)

pub returns-clause-serial : goal.returns-clause-serial
returns-clause-serial g c =
    let keys = c.self.inside.wheel in
    let bodies = c.self.inside.bodies.items in
    let count = c.self.inside.count in
    let places = c.self.inside.places.items in
    let slots : slots_of keys bodies places ≡ set c.args.self.now.items (length c.args.self.now.items - 1) None =
    ap (λ (s : SlotList _). s.items) c.self.view_is ∙ c.take.ensures.rest ∙ ap (λ (n : ℕ). set c.args.self.now.items (n - 1) None) c.len-last.ensures in
    let taken : Some c.unwrap-taken.result ≡ option_map (item_of (c.args.self.now.base + (length c.args.self.now.items - 1))) (at c.args.self.now.items (length c.args.self.now.items - 1)) =
    sym c.unwrap-taken.ensures ∙ c.take.ensures.item ∙ ap (λ (n : ℕ). option_map (item_of (c.args.self.now.base + (n - 1))) (at c.args.self.now.items (n - 1))) c.len-last.ensures in
    let entry = entry_is _ _ c.unwrap-taken.result taken in
    let e = emptied keys bodies places c.pop.new.self.items c.self.inside.base count (vec_len c.self.inside.places) c.args.self.now.items (c.unwrap-taken.result.due, c.unwrap-taken.result.body)
    c.pop.result c.self.invariant slots entry.0 c.self.inside.places.ok.0 (c.pop.ensures.value None) c.pop.ensures.items in
    let base : c.self.inside.base ≡ c.args.self.now.base = ap (λ (s : SlotList _). s.base) c.self.view_is ∙ c.take.ensures.base in
    let lengths : length c.args.self.now.items ≡ length c.pop.new.self.items + 1 =
    sym (sym (length_slots keys bodies places) ∙ ap (λ s. length s) slots ∙ length-set c.args.self.now.items (length c.args.self.now.items - 1) None)
    ∙ ap (λ xs. length xs) e ∙ length_push c.pop.new.self.items None in
    serial_last c.unwrap-taken.result.serial c.self.inside.base c.args.self.now.base (length c.args.self.now.items) (length c.pop.new.self.items) (length (slots_of keys bodies c.pop.new.self.items))
    entry.1 base lengths (length_slots keys bodies c.pop.new.self.items)
