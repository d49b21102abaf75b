-- The item in the first slot is the first item.
use Rattle.std.proofs.Common.{◌≡◌, ℕ, zero, suc, ◌+◌, ◌-◌, ◌<◌, ◌≤◌, Bool, true, false, cond, List, [], ◌∷◌, Option, Some, None, refl, sym, ap, ◌∙◌, subst, arith, ◌==◌, ◌&&◌, ◌||◌, nat_lt, inl, inr, ⊎_elim}
use Rattle.std.proofs.lemmas.Bool.Decides.{nat_tests}
use Rattle.std.proofs.lemmas.Option.{none-some}
use Rattle.std.proofs.Math.ListN.{set}
use Rattle.std.specs.Option.{option_map}
use Rattle.std.specs.Prelude.{IfSome, IfNone}
use Rattle.sim_queue.specs.declared.Item.{Item}
use Rattle.sim_queue.specs.Pending.{first, first_of, is_before, take}
use Rattle.sim_queue.specs.inside.Wheel.{NotAfter}
use Rattle.sim_queue.specs.inside.Slots.{at, IsFirstSlot, HasNoItem}
use Rattle.sim_queue.specs.Items.{item_of, items_from, pending}
use Rattle.sim_queue.proofs.Views.{taken_from}

late : (zd zs yd ys : ℕ) → NotAfter zd zs yd ys → (nat_lt yd zd || ((yd == zd) && nat_lt ys zs)) ≡ false
late zd zs yd ys (inl p) = grind (arith, nat_tests)
late zd zs yd ys (inr p) = let a : zd ≡ yd = p.0 in let b : zs ≤ ys = p.1 in grind (arith, nat_tests)

soon : (zd zs xd xs : ℕ) → NotAfter zd zs xd xs → xs < zs → (nat_lt zd xd || ((zd == xd) && nat_lt zs xs)) ≡ true
soon zd zs xd xs (inl p) lt = grind (arith, nat_tests)
soon zd zs xd xs (inr p) lt = absurd (let b : zs ≤ xs = p.1 in omega arith)

module _ {B : Type 0} where
  -- z is not after any item of the slots
  abbrev IsLeast : Item B → ℕ → List (Option (ℕ × B)) → Type 0
  IsLeast z n slots = (j : ℕ) (e : ℕ × B) → at slots j ≡ Some e → NotAfter z.due z.serial e.0 (n + j)

  least_tail : (z : Item B) (n : ℕ) (x : Option (ℕ × B)) (slots : List (Option (ℕ × B))) → IsLeast z n (x ∷ slots) → IsLeast z (n + 1) slots
  least_tail z n x slots all j e h =
      let k : n + suc j ≡ n + 1 + j = omega arith in
      subst (λ (m : ℕ). NotAfter z.due z.serial e.0 m) k (all (suc j) e h)

  least_head : (z : Item B) (n : ℕ) (e : ℕ × B) (slots : List (Option (ℕ × B))) → IsLeast z n (Some e ∷ slots) → NotAfter z.due z.serial e.0 n
  least_head z n e slots all = let k : n + 0 ≡ n = omega arith in subst (λ (m : ℕ). NotAfter z.due z.serial e.0 m) k (all 0 e refl)

  stays : (z : Item B) (n : ℕ) (slots : List (Option (ℕ × B))) → IsLeast z n slots → first_of z (items_from n slots) ≡ z
  stays z n [] all = refl
  stays z n (None ∷ slots) all = stays z (n + 1) slots (least_tail z n None slots all)
  stays z n (Some e ∷ slots) all =
      ap (λ b. first_of (cond b (item_of n e) z) (items_from (n + 1) slots)) (late z.due z.serial e.0 n (least_head z n e slots all))
      ∙ stays z (n + 1) slots (least_tail z n (Some e) slots all)

  wins : (z x : Item B) (n i : ℕ) (slots : List (Option (ℕ × B))) → at slots i ≡ Some (z.due, z.body) → z.serial ≡ n + i
      → x.serial < n → NotAfter z.due z.serial x.due x.serial → IsLeast z n slots → first_of x (items_from n slots) ≡ z
  wins z x n i [] h s lt na all = cc
  wins z x n zero (None ∷ slots) h s lt na all = cc
  wins z x n (suc i) (None ∷ slots) h s lt na all = wins z x (n + 1) i slots h (omega arith) (omega arith) na (least_tail z n None slots all)
  wins z x n zero (Some e ∷ slots) h s lt na all =
      let due : e.0 ≡ z.due = cc in
      let body : e.1 ≡ z.body = cc in
      let serial : n ≡ z.serial = omega arith in
      let same : item_of n e ≡ z = λ k. record { due = due k; serial = serial k; body = body k } in
      let before : is_before (item_of n e) x ≡ true = subst (λ (y : Item B). is_before y x ≡ true) (sym same) (soon z.due z.serial x.due x.serial na (omega arith)) in
      ap (λ b. first_of (cond b (item_of n e) x) (items_from (n + 1) slots)) before
      ∙ ap (λ y. first_of y (items_from (n + 1) slots)) same
      ∙ stays z (n + 1) slots (least_tail z n (Some e) slots all)
  wins z x n (suc i) (Some e ∷ slots) h s lt na all =
      go (wins z (item_of n e) (n + 1) i slots h (omega arith) (omega arith) (least_head z n e slots all) (least_tail z n (Some e) slots all))
      (wins z x (n + 1) i slots h (omega arith) (omega arith) na (least_tail z n (Some e) slots all))
      (is_before (item_of n e) x)
    where
      go : first_of (item_of n e) (items_from (n + 1) slots) ≡ z → first_of x (items_from (n + 1) slots) ≡ z
          → (b : Bool) → first_of (cond b (item_of n e) x) (items_from (n + 1) slots) ≡ z
      go p q true = p
      go p q false = q

  first_at : (z : Item B) (n i : ℕ) (slots : List (Option (ℕ × B))) → at slots i ≡ Some (z.due, z.body) → z.serial ≡ n + i → IsLeast z n slots
      → first (items_from n slots) ≡ Some z
  unfolding first
  first_at z n i [] h s all = cc
  first_at z n zero (None ∷ slots) h s all = cc
  first_at z n (suc i) (None ∷ slots) h s all = first_at z (n + 1) i slots h (omega arith) (least_tail z n None slots all)
  first_at z n zero (Some e ∷ slots) h s all =
      let due : e.0 ≡ z.due = cc in
      let body : e.1 ≡ z.body = cc in
      let serial : n ≡ z.serial = omega arith in
      let same : item_of n e ≡ z = λ k. record { due = due k; serial = serial k; body = body k } in
      ap (λ y. Some y) (ap (λ y. first_of y (items_from (n + 1) slots)) same ∙ stays z (n + 1) slots (least_tail z n (Some e) slots all))
  first_at z n (suc i) (Some e ∷ slots) h s all =
      ap (λ y. Some y) (wins z (item_of n e) (n + 1) i slots h (omega arith) (omega arith) (least_head z n e slots all) (least_tail z n (Some e) slots all))

  none_from : (n : ℕ) (slots : List (Option (ℕ × B))) → ((i : ℕ) (e : ℕ × B) → at slots i ≡ Some e → ⊥) → items_from n slots ≡ []
  none_from n [] none = refl
  none_from n (None ∷ slots) none = none_from (n + 1) slots (λ i e h. none (suc i) e h)
  none_from n (Some e ∷ slots) none = absurd (none 0 e refl)

  pub first_none : (base : ℕ) (slots : List (Option (ℕ × B))) → HasNoItem slots → first (items_from base slots) ≡ None
  unfolding first
  first_none base slots none = ap (λ xs. first xs) (none_from base slots (λ i e h. none-some e (sym (none i) ∙ h)))

  -- the item in the first slot
  pub first_here : (base i : ℕ) (slots : List (Option (ℕ × B))) → IsFirstSlot i slots → option_map (item_of (base + i)) (at slots i) ≡ first (items_from base slots)
  first_here base i slots is =
      ap (λ o. option_map (item_of (base + i)) o) is.there
      ∙ sym (first_at (item_of (base + i) is.entry) base i slots is.there refl
      (λ j e h. ⊎_elim (λ lt. inl lt) (λ le. inr (le.0, let b = le.1 in omega arith)) (is.least j e h)))

  -- an item that was taken from the first slot is the first one
  pub first_taken : (base : ℕ) (slots : List (Option (ℕ × B))) (r : Option (Item B)) → IfSome r (λ x. base ≤ x.serial) → IfSome r (λ x. IsFirstSlot (x.serial - base) slots)
      → IfSome r (λ x. at slots (x.serial - base) ≡ Some (x.due, x.body)) → IfNone r (HasNoItem slots) → r ≡ first (items_from base slots)
  first_taken base slots None from is there none = sym (first_none base slots none)
  first_taken base slots (Some x) from is there none =
      let e : base + (x.serial - base) ≡ x.serial = omega arith in
      let item : Some x ≡ option_map (item_of x.serial) (at slots (x.serial - base)) = sym (ap (λ o. option_map (item_of x.serial) o) there) in
      item ∙ ap (λ (n : ℕ). option_map (item_of n) (at slots (x.serial - base))) (sym e) ∙ first_here base (x.serial - base) slots is

  pub first_rest : (base after : ℕ) (slots new : List (Option (ℕ × B))) (r : Option (Item B)) → IfSome r (λ x. base ≤ x.serial)
      → IfSome r (λ x. new ≡ set slots (x.serial - base) None) → after ≡ base → IfSome r (λ x. pending after new ≡ take x.serial (pending base slots))
  first_rest base after slots new None from rest same = tt
  first_rest base after slots new (Some x) from rest same = ap (λ (n : ℕ). pending n new) same ∙ taken_from x.serial base slots new from rest
