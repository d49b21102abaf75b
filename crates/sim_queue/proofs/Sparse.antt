-- What an edit of keys, bodies and places does to the slots.
use Rattle.std.proofs.Common.{◌≡◌, ◌≢◌, ℕ, zero, suc, ◌+◌, ◌-◌, ◌<◌, ◌≤◌, List, [], ◌∷◌, ◌++◌, Option, Some, None, refl, sym, ap, ◌∙◌, subst, arith, ◌⊎◌, inl, inr, ⊎_elim, length}
use Rattle.std.proofs.Math.ListN.{get_or, set, length-set, replicate}
use Rattle.std.proofs.lemmas.Bool.{cases_eq}
use Rattle.std.proofs.lemmas.List.{ext_get_or, get_or-set_same, get_or-set_other, map_push, map-set, length_push, length-map, set-get_or, set-set, set_at, get_or_default}
use Rattle.std.proofs.lemmas.Option.{same_Some, none-some}
use Rattle.std.specs.Option.{option_map, option_to_list}
use Rattle.sim_queue.specs.declared.Item.{Item}
use Rattle.sim_queue.specs.Pending.{with_serial}
use Rattle.sim_queue.specs.Items.{item_of, items_from}
use Rattle.sim_queue.specs.inside.Slots.{at}
use Rattle.sim_queue.specs.inside.Wheel.{key_at, HasNone, HasSame, IsFirst}
use Rattle.sim_queue.specs.inside.Slots.{IsFirstSlot, HasNoItem}
use Rattle.sim_queue.specs.inside.Sparse.{index_at, body_at, entry, slot_of, slots_of, IsStored, IsSparse, IsPut, IsTaken, HasSameBodies}
use Rattle.sim_queue.proofs.Laws.{again, length-put_back, length-without}
use Rattle.sim_queue.proofs.Views.{items-append, items-none, with-at, without-at, put-at, is_queue}

-- two lists of the same length with the same at each index are one
pub same_spots : {X : Type 0} (xs ys : List (Option X)) → length xs ≡ length ys → ((i : ℕ) → get_or xs i None ≡ get_or ys i None) → xs ≡ ys
same_spots xs ys l all = ext_get_or None xs ys l (λ i lt. all i)

pub spot_within : {X : Type 0} (xs : List (Option X)) (i : ℕ) (x : X) → get_or xs i None ≡ Some x → i < length xs
spot_within [] i x h = absurd (none-some x h)
spot_within (y ∷ xs) zero x h = omega arith
spot_within (y ∷ xs) (suc i) x h = let l = spot_within xs i x h in omega arith

pub spot_pushed : {X : Type 0} (i : ℕ) (xs : List (Option X)) (x y : X) → get_or (xs ++ Some x ∷ []) i None ≡ Some y → (get_or xs i None ≡ Some y) ⊎ ((i ≡ length xs) × (x ≡ y))
spot_pushed zero [] x y h = inr (refl, same_Some x y h)
spot_pushed (suc i) [] x y h = absurd (none-some y h)
spot_pushed zero (z ∷ xs) x y h = inl h
spot_pushed (suc i) (z ∷ xs) x y h = ⊎_elim (λ p. inl p) (λ p. inr (ap suc p.0, p.1)) (spot_pushed i xs x y h)

spot_front : {X : Type 0} (i : ℕ) (xs : List (Option X)) (x : Option X) (y : X) → get_or xs i None ≡ Some y → get_or (xs ++ x ∷ []) i None ≡ Some y
spot_front i [] x y h = absurd (none-some y h)
spot_front zero (z ∷ xs) x y h = h
spot_front (suc i) (z ∷ xs) x y h = spot_front i xs x y h

spot_last : {X : Type 0} (xs : List (Option X)) (x : Option X) → get_or (xs ++ x ∷ []) (length xs) None ≡ x
spot_last [] x = refl
spot_last (y ∷ xs) x = spot_last xs x

-- a spot that was cleared, whether it was there or not
pub spot_cleared : {X : Type 0} (i : ℕ) (xs : List (Option X)) → get_or (set xs i None) i None ≡ None
spot_cleared i [] = refl
spot_cleared zero (y ∷ xs) = refl
spot_cleared (suc i) (y ∷ xs) = spot_cleared i xs

-- an empty spot behind the others
spot_none : {X : Type 0} (i : ℕ) (xs : List (Option X)) → get_or (xs ++ None ∷ []) i None ≡ get_or xs i None
spot_none zero [] = refl
spot_none (suc i) [] = refl
spot_none zero (y ∷ xs) = refl
spot_none (suc i) (y ∷ xs) = spot_none i xs

-- clearing what is clear
pub set_none : {X : Type 0} (xs : List (Option X)) (i : ℕ) → get_or xs i None ≡ None → set xs i None ≡ xs
set_none xs i h = ap (λ o. set xs i o) (sym h) ∙ set-get_or xs i None

-- a list whose last spot was cleared
pub last_taken : {X : Type 0} (xs new : List (Option X)) (x : X) → get_or xs (length xs - 1) None ≡ Some x → set xs (length xs - 1) None ≡ new ++ None ∷ [] → xs ≡ new ++ Some x ∷ []
last_taken xs new x h cleared =
    let some = spot_within xs (length xs - 1) x h in
    let l : length xs ≡ length (new ++ None ∷ []) = sym (length-set xs (length xs - 1) None) ∙ ap (λ ys. length ys) cleared in
    let more : length (new ++ None ∷ []) ≡ length new + 1 = length_push new None in
    let last : length xs - 1 ≡ length new = omega arith in
    sym (set-get_or xs (length xs - 1) None) ∙ ap (λ o. set xs (length xs - 1) o) h ∙ sym (set-set xs (length xs - 1) None (Some x))
    ∙ ap (λ ys. set ys (length xs - 1) (Some x)) cleared ∙ set_at new None [] (Some x) (length xs - 1) (sym last)

-- the last spot, which is empty, is dropped
pub dropped : {X : Type 0} (xs new : List (Option X)) (r : Option (Option X)) → r ≡ Some (get_or xs (length xs - 1) None) → get_or xs (length xs - 1) None ≡ None
    → xs ≡ new ++ option_to_list r → xs ≡ new ++ None ∷ []
dropped xs new r is none h = h ∙ ap (λ o. new ++ option_to_list o) (is ∙ ap (λ o. Some o) none)

-- how many items there are
pub items_within : {B : Type 0} (n : ℕ) (slots : List (Option (ℕ × B))) → length (items_from n slots) ≤ length slots
items_within n [] = omega arith
items_within n (None ∷ slots) = let l = items_within (n + 1) slots in omega arith
items_within n (Some e ∷ slots) = let l = items_within (n + 1) slots in omega arith

pub items_some : {B : Type 0} (n i : ℕ) (e : ℕ × B) (slots : List (Option (ℕ × B))) → at slots i ≡ Some e → 1 ≤ length (items_from n slots)
items_some n i e [] h = absurd (none-some e h)
items_some n zero e (None ∷ slots) h = absurd (none-some e h)
items_some n (suc i) e (None ∷ slots) h = items_some (n + 1) i e slots h
items_some n i e (Some f ∷ slots) h = omega arith

-- the place that is read in a slot
pub read_index : (places : List (Option ℕ)) (i : ℕ) (p : Option ℕ) → i < length places → p ≡ get_or places i p → index_at places i ≡ p
read_index places i p lt read = get_or_default places i None p lt ∙ sym read

pub index_past : (places : List (Option ℕ)) (i : ℕ) → length places ≤ i → index_at places i ≡ None
index_past [] i h = refl
index_past (p ∷ places) zero h = absurd (omega arith)
index_past (p ∷ places) (suc i) h = index_past places i (omega arith)

-- a body that is read
pub read_body : {B : Type 0} (bodies : List (Option B)) (k : ℕ) (o : Option B) → k < length bodies → o ≡ get_or bodies k o → body_at bodies k ≡ o
read_body bodies k o within read = get_or_default bodies k None o within ∙ sym read

-- empty slots alone
no_place : (n i : ℕ) → index_at (replicate n None) i ≡ None
no_place zero i = refl
no_place (suc n) zero = refl
no_place (suc n) (suc i) = no_place n i

no_items : (B : Type 0) (n m : ℕ) → length (items_from {B = B} m (replicate n None)) ≡ 0
no_items B zero m = refl
no_items B (suc n) m = no_items B n (m + 1)

pub empty_slots : {B : Type 0} (n : ℕ) (keys : List (Option (ℕ × ℕ))) (bodies : List (Option B)) → slots_of keys bodies (replicate n None) ≡ replicate n None
empty_slots zero keys bodies = refl
empty_slots (suc n) keys bodies = ap (λ s. None ∷ s) (empty_slots n keys bodies)

pub empty_sparse : {B : Type 0} (n base : ℕ) (keys : List (Option (ℕ × ℕ))) (bodies : List (Option B)) → HasNone keys → IsSparse keys bodies (replicate n None) base 0
empty_sparse {B} n base keys bodies none = record {
  found = λ i k h. absurd (none-some k (sym (no_place n i) ∙ h));
  from = λ k d s h. absurd (none-some (d, s) (sym (none k) ∙ h));
  placed = λ k d s h. absurd (none-some (d, s) (sym (none k) ∙ h));
  counted = sym (ap (λ xs. length (items_from base xs)) (empty_slots n keys bodies) ∙ no_items B n base);
}

module _ {B : Type 0} where
  pub at_slots : (keys : List (Option (ℕ × ℕ))) (bodies : List (Option B)) (places : List (Option ℕ)) (i : ℕ) → at (slots_of keys bodies places) i ≡ slot_of keys bodies (index_at places i)
  at_slots keys bodies [] i = refl
  at_slots keys bodies (p ∷ places) zero = refl
  at_slots keys bodies (p ∷ places) (suc i) = at_slots keys bodies places i

  pub length_slots : (keys : List (Option (ℕ × ℕ))) (bodies : List (Option B)) (places : List (Option ℕ)) → length (slots_of keys bodies places) ≡ length places
  length_slots keys bodies places = length-map places (slot_of keys bodies)

  pub stored_slot : (keys : List (Option (ℕ × ℕ))) (bodies : List (Option B)) (k serial : ℕ) (x : IsStored keys bodies k serial) → slot_of keys bodies (Some k) ≡ Some (x.due, x.body)
  stored_slot keys bodies k serial x = ap (λ o. entry o (body_at bodies k)) x.key ∙ ap (λ o. entry (Some (x.due, serial)) o) x.there

  -- what stands in a slot that has a place
  pub found_slot : (keys : List (Option (ℕ × ℕ))) (bodies : List (Option B)) (places : List (Option ℕ)) (i k serial : ℕ) → index_at places i ≡ Some k → (x : IsStored keys bodies k serial)
      → at (slots_of keys bodies places) i ≡ Some (x.due, x.body)
  found_slot keys bodies places i k serial h x = at_slots keys bodies places i ∙ ap (λ o. slot_of keys bodies o) h ∙ stored_slot keys bodies k serial x

  -- what is found at a slot's place
  pub got : (keys : List (Option (ℕ × ℕ))) (bodies : List (Option B)) (places : List (Option ℕ)) (i k d s : ℕ) (b : B) → index_at places i ≡ Some k → key_at keys k ≡ Some (d, s)
      → body_at bodies k ≡ Some b → Some (d, b) ≡ at (slots_of keys bodies places) i
  got keys bodies places i k d s b here key body =
      sym (at_slots keys bodies places i ∙ ap (λ o. slot_of keys bodies o) here ∙ ap (λ o. entry o (body_at bodies k)) key ∙ ap (λ o. entry (Some (d, s)) o) body)

  pub empty_slot : (keys : List (Option (ℕ × ℕ))) (bodies : List (Option B)) (places : List (Option ℕ)) (i : ℕ) → index_at places i ≡ None → at (slots_of keys bodies places) i ≡ None
  empty_slot keys bodies places i h = at_slots keys bodies places i ∙ ap (λ o. slot_of keys bodies o) h

  -- a slot without an item has no place
  pub no_index : (keys : List (Option (ℕ × ℕ))) (bodies : List (Option B)) (places : List (Option ℕ)) (base count i : ℕ) → IsSparse keys bodies places base count
      → at (slots_of keys bodies places) i ≡ None → index_at places i ≡ None
  no_index keys bodies places base count i sparse h = go (index_at places i) refl
    where
      go : (p : Option ℕ) → index_at places i ≡ p → p ≡ None
      go None q = refl
      go (Some k) q =
          let x = sparse.found i k q in
          absurd (none-some (x.due, x.body) (sym h ∙ found_slot keys bodies places i k (base + i) q x))

  -- a slot with an item has a place
  pub some_index : (keys : List (Option (ℕ × ℕ))) (bodies : List (Option B)) (places : List (Option ℕ)) (i : ℕ) (e : ℕ × B) → at (slots_of keys bodies places) i ≡ Some e
      → (k : ℕ) × (index_at places i ≡ Some k)
  some_index keys bodies places i e h = go (index_at places i) refl
    where
      go : (p : Option ℕ) → index_at places i ≡ p → (k : ℕ) × (index_at places i ≡ Some k)
      go None q = absurd (none-some e (sym (empty_slot keys bodies places i q) ∙ h))
      go (Some k) q = (k, q)

  -- the slots stay where what stands at their places stays
  same_slots : (keys new : List (Option (ℕ × ℕ))) (bodies more : List (Option B)) (places : List (Option ℕ))
      → ((i k : ℕ) → index_at places i ≡ Some k → (key_at new k ≡ key_at keys k) × (body_at more k ≡ body_at bodies k)) → slots_of new more places ≡ slots_of keys bodies places
  same_slots keys new bodies more [] all = refl
  same_slots keys new bodies more (None ∷ places) all = ap (λ xs. None ∷ xs) (same_slots keys new bodies more places (λ i k h. all (suc i) k h))
  same_slots keys new bodies more (Some k ∷ places) all =
      let e = all 0 k refl in
      ap (λ o. entry o (body_at more k) ∷ slots_of new more places) e.0 ∙ ap (λ o. entry (key_at keys k) o ∷ slots_of new more places) e.1
      ∙ ap (λ xs. slot_of keys bodies (Some k) ∷ xs) (same_slots keys new bodies more places (λ i j h. all (suc i) j h))

  -- nothing changed
  pub kept_slots : (keys new : List (Option (ℕ × ℕ))) (bodies more : List (Option B)) (places : List (Option ℕ)) → HasSame keys new → HasSameBodies bodies more
      → slots_of new more places ≡ slots_of keys bodies places
  kept_slots keys new bodies more places same rest = same_slots keys new bodies more places (λ i k h. (same k, rest k))

  pub kept_sparse : (keys new : List (Option (ℕ × ℕ))) (bodies more : List (Option B)) (places : List (Option ℕ)) (base count : ℕ) → HasSame keys new → HasSameBodies bodies more
      → IsSparse keys bodies places base count → IsSparse new more places base count
  kept_sparse keys new bodies more places base count same rest sparse = record {
    found = λ i k h. let x = sparse.found i k h in record { due = x.due; body = x.body; key = same k ∙ x.key; there = rest k ∙ x.there };
    from = λ k d s h. sparse.from k d s (sym (same k) ∙ h);
    placed = λ k d s h. sparse.placed k d s (sym (same k) ∙ h);
    counted = sparse.counted ∙ ap (λ xs. length (items_from base xs)) (sym (kept_slots keys new bodies more places same rest));
  }

  -- an item came to a place that was free
  module _ (keys new : List (Option (ℕ × ℕ))) (bodies more : List (Option B)) (k due serial : ℕ) (body : B) (put : IsPut k due serial body keys new bodies more) where
    -- the place of another item is another one
    other_place : (j : ℕ) (e : ℕ × ℕ) → key_at keys j ≡ Some e → j ≢ k
    other_place j e h q = none-some e (sym put.was ∙ ap (λ (n : ℕ). key_at keys n) (sym q) ∙ h)

    abbrev here_stored : IsStored new more k serial
    here_stored = record { due = due; body = body; key = put.there; there = put.body }

    was_stored : (j s : ℕ) → IsStored keys bodies j s → IsStored new more j s
    was_stored j s x =
        let ne = other_place j (x.due, s) x.key in
        record { due = x.due; body = x.body; key = put.others j ne ∙ x.key; there = put.rest j ne ∙ x.there }

    -- what key stands at a place
    key_put : (j d s : ℕ) → key_at new j ≡ Some (d, s) → ((j ≡ k) × (serial ≡ s)) ⊎ (key_at keys j ≡ Some (d, s))
    key_put j d s h = ⊎_elim
        (λ (e : j ≡ k).
        let both : (due, serial) ≡ (d, s) = same_Some (due, serial) (d, s) (sym put.there ∙ ap (λ (n : ℕ). key_at new n) (sym e) ∙ h) in
        inl (e, ap (λ (q : ℕ × ℕ). q.1) both))
        (λ (ne : j ≢ k). inr (sym (put.others j ne) ∙ h))
        (cases_eq j k)

    module _ (places : List (Option ℕ)) (base count : ℕ) (sparse : IsSparse keys bodies places base count) where
      before_slots : slots_of new more places ≡ slots_of keys bodies places
      before_slots = same_slots keys new bodies more places
          (λ i j h. let x = sparse.found i j h in let ne = other_place j (x.due, base + i) x.key in (put.others j ne, put.rest j ne))

      -- it comes with a slot behind the others
      pub pushed_slots : slots_of new more (places ++ Some k ∷ []) ≡ slots_of keys bodies places ++ Some (due, body) ∷ []
      pushed_slots =
          map_push (slot_of new more) places (Some k)
          ∙ ap (λ xs. xs ++ slot_of new more (Some k) ∷ []) before_slots
          ∙ ap (λ o. slots_of keys bodies places ++ o ∷ []) (stored_slot new more k serial here_stored)

      pub pushed_sparse : serial ≡ base + length places → IsSparse new more (places ++ Some k ∷ []) base (count + 1)
      pushed_sparse at_end = record {
        found = λ i j h. ⊎_elim
            (λ p. was_stored j (base + i) (sparse.found i j p))
            (λ p.
            let e : serial ≡ base + i = at_end ∙ ap (λ (n : ℕ). base + n) (sym p.0) in
            subst (λ (n : ℕ). IsStored new more n (base + i)) p.1 (subst (λ (n : ℕ). IsStored new more k n) e here_stored))
            (spot_pushed i places k j h);
        from = λ j d s h. ⊎_elim (λ p. let e : serial ≡ s = p.1 in omega arith) (λ p. sparse.from j d s p) (key_put j d s h);
        placed = λ j d s h. ⊎_elim
            (λ p.
            let e : serial ≡ s = p.1 in
            let last : s - base ≡ length places = omega arith in
            ap (λ (n : ℕ). index_at (places ++ Some k ∷ []) n) last ∙ spot_last places (Some k) ∙ ap (λ (n : ℕ). Some n) (sym p.0))
            (λ p. spot_front (s - base) places (Some k) j (sparse.placed j d s p))
            (key_put j d s h);
        counted =
            let all : length (items_from base (slots_of new more (places ++ Some k ∷ []))) ≡ length (items_from base (slots_of keys bodies places) ++ item_of (base + length (slots_of keys bodies places)) (due, body) ∷ []) =
            ap (λ s. length (items_from base s)) pushed_slots ∙ ap (λ xs. length xs) (items-append base (slots_of keys bodies places) (due, body)) in
            let one = length_push (items_from base (slots_of keys bodies places)) (item_of (base + length (slots_of keys bodies places)) (due, body)) in
            let before = sparse.counted in
            omega arith;
      }

      -- it comes into an empty slot
      pub filled_slots : (i : ℕ) → slots_of new more (set places i (Some k)) ≡ set (slots_of keys bodies places) i (Some (due, body))
      filled_slots i =
          map-set (slot_of new more) places i (Some k)
          ∙ ap (λ xs. set xs i (slot_of new more (Some k))) before_slots
          ∙ ap (λ o. set (slots_of keys bodies places) i o) (stored_slot new more k serial here_stored)

      pub filled_sparse : (i : ℕ) → serial ≡ base + i → i < length places → index_at places i ≡ None → IsSparse new more (set places i (Some k)) base (count + 1)
      filled_sparse i here within empty = record {
        found = λ n j h. ⊎_elim
            (λ (e : n ≡ i).
            let now : Some k ≡ Some j = sym (get_or-set_same places i (Some k) None within) ∙ ap (λ (m : ℕ). index_at (set places i (Some k)) m) (sym e) ∙ h in
            let serial_is : serial ≡ base + n = here ∙ ap (λ (m : ℕ). base + m) (sym e) in
            subst (λ (m : ℕ). IsStored new more m (base + n)) (same_Some k j now) (subst (λ (m : ℕ). IsStored new more k m) serial_is here_stored))
            (λ (ne : n ≢ i). was_stored j (base + n) (sparse.found n j (sym (get_or-set_other places i n (Some k) None ne) ∙ h)))
            (cases_eq n i);
        from = λ j d s h. ⊎_elim (λ p. let e : serial ≡ s = p.1 in omega arith) (λ p. sparse.from j d s p) (key_put j d s h);
        placed = λ j d s h. ⊎_elim
            (λ p.
            let e : serial ≡ s = p.1 in
            let same : s - base ≡ i = omega arith in
            ap (λ (m : ℕ). index_at (set places i (Some k)) m) same ∙ get_or-set_same places i (Some k) None within ∙ ap (λ (m : ℕ). Some m) (sym p.0))
            (λ p.
            let there : index_at places (s - base) ≡ Some j = sparse.placed j d s p in
            let apart : s - base ≢ i = λ e. none-some j (sym empty ∙ ap (λ (m : ℕ). index_at places m) (sym e) ∙ there) in
            get_or-set_other places i (s - base) (Some k) None apart ∙ there)
            (key_put j d s h);
        counted =
            let slots = slots_of keys bodies places in
            let none : at slots i ≡ None = empty_slot keys bodies places i empty in
            let lengths : length slots ≡ length places = length_slots keys bodies places in
            let y : Item B = item_of (base + i) (due, body) in
            let all : length (items_from base (slots_of new more (set places i (Some k)))) ≡ length (again y (items_from base slots)) =
            ap (λ s. length (items_from base s)) (filled_slots i) ∙ ap (λ xs. length xs) (put-at (base + i) base i slots (due, body) refl (omega arith) none) in
            let absent : with_serial (base + i) (items_from base slots) ≡ None = with-at base i slots ∙ ap (λ o. option_map (item_of (base + i)) o) none in
            let one = length-put_back y (items_from base slots) absent in
            let before = sparse.counted in
            omega arith;
      }

  -- an item left its place
  module _ (keys new : List (Option (ℕ × ℕ))) (bodies more : List (Option B)) (places : List (Option ℕ)) (base count i k : ℕ) (taken : IsTaken k keys new bodies more)
      (sparse : IsSparse keys bodies places base count) (here : index_at places i ≡ Some k) where
    x : IsStored keys bodies k (base + i)
    x = sparse.found i k here

    -- another slot has another place
    one_slot : (j : ℕ) → j ≢ i → index_at places j ≢ Some k
    one_slot j ne h =
        let y = sparse.found j k h in
        let both : (x.due, base + i) ≡ (y.due, base + j) = same_Some (x.due, base + i) (y.due, base + j) (sym x.key ∙ y.key) in
        let same : base + i ≡ base + j = ap (λ (q : ℕ × ℕ). q.1) both in
        ne (omega arith)

    pub taken_slots : slots_of new more (set places i None) ≡ set (slots_of keys bodies places) i None
    taken_slots =
        same_spots (slots_of new more (set places i None)) (set (slots_of keys bodies places) i None)
        (length_slots new more (set places i None) ∙ length-set places i None ∙ sym (length_slots keys bodies places) ∙ sym (length-set (slots_of keys bodies places) i None))
        (λ j. at_slots new more (set places i None) j ∙ ⊎_elim
        (λ (e : j ≡ i). subst (λ (m : ℕ). slot_of new more (index_at (set places i None) m) ≡ at (set (slots_of keys bodies places) i None) m) (sym e)
        (ap (λ o. slot_of new more o) (spot_cleared i places) ∙ sym (spot_cleared i (slots_of keys bodies places))))
        (λ (ne : j ≢ i).
        ap (λ o. slot_of new more o) (get_or-set_other places i j None None ne) ∙ other j ne (index_at places j) refl ∙ sym (at_slots keys bodies places j)
        ∙ sym (get_or-set_other (slots_of keys bodies places) i j None None ne))
        (cases_eq j i))
      where
        other : (j : ℕ) → j ≢ i → (p : Option ℕ) → index_at places j ≡ p → slot_of new more (index_at places j) ≡ slot_of keys bodies (index_at places j)
        other j ne None h = ap (λ o. slot_of new more o) h ∙ sym (ap (λ o. slot_of keys bodies o) h)
        other j ne (Some m) h =
            let apart : m ≢ k = λ e. one_slot j ne (h ∙ ap (λ (n : ℕ). Some n) e) in
            ap (λ o. slot_of new more o) h ∙ ap (λ o. entry o (body_at more m)) (taken.others m apart) ∙ ap (λ o. entry (key_at keys m) o) (taken.rest m apart)
            ∙ sym (ap (λ o. slot_of keys bodies o) h)

    pub taken_sparse : IsSparse new more (set places i None) base (count - 1)
    taken_sparse = record {
      found = λ j m h. ⊎_elim
          (λ (e : j ≡ i). absurd (none-some m (sym (spot_cleared i places) ∙ ap (λ (n : ℕ). index_at (set places i None) n) (sym e) ∙ h)))
          (λ (ne : j ≢ i).
          let was : index_at places j ≡ Some m = sym (get_or-set_other places i j None None ne) ∙ h in
          let apart : m ≢ k = λ e. one_slot j ne (was ∙ ap (λ (n : ℕ). Some n) e) in
          let y = sparse.found j m was in
          record { due = y.due; body = y.body; key = taken.others m apart ∙ y.key; there = taken.rest m apart ∙ y.there })
          (cases_eq j i);
      from = λ m d s h. sparse.from m d s (was_key m d s h).1;
      placed = λ m d s h.
          let w = was_key m d s h in
          let there : index_at places (s - base) ≡ Some m = sparse.placed m d s w.1 in
          let ne : s - base ≢ i = λ e. w.0 (sym (same_Some k m (sym here ∙ ap (λ (n : ℕ). index_at places n) (sym e) ∙ there))) in
          get_or-set_other places i (s - base) None None ne ∙ there;
      counted =
          let slots = slots_of keys bodies places in
          let slot : at slots i ≡ Some (x.due, x.body) = found_slot keys bodies places i k (base + i) here x in
          let is : with_serial (base + i) (items_from base slots) ≡ Some (item_of (base + i) (x.due, x.body)) = with-at base i slots ∙ ap (λ o. option_map (item_of (base + i)) o) slot in
          let l = length-without (base + i) 0 (items_from base slots) (base + length slots) (item_of (base + i) (x.due, x.body)) (is_queue base slots) is in
          let rest = ap (λ s. length (items_from base s)) taken_slots ∙ ap (λ xs. length xs) (without-at base i slots) in
          let before = sparse.counted in
          omega arith;
    }
      where
        was_key : (m d s : ℕ) → key_at new m ≡ Some (d, s) → (m ≢ k) × (key_at keys m ≡ Some (d, s))
        was_key m d s h = ⊎_elim
            (λ (e : m ≡ k). absurd (none-some (d, s) (sym taken.gone ∙ ap (λ (n : ℕ). key_at new n) (sym e) ∙ h)))
            (λ (ne : m ≢ k). (ne, sym (taken.others m ne) ∙ h))
            (cases_eq m k)

    -- the item that was there
    pub item_here : (y : Item B) → key_at keys k ≡ Some (y.due, y.serial) → body_at bodies k ≡ Some y.body → Some y ≡ option_map (item_of (base + i)) (at (slots_of keys bodies places) i)
    item_here y key there =
        let both : (x.due, base + i) ≡ (y.due, y.serial) = same_Some (x.due, base + i) (y.due, y.serial) (sym x.key ∙ key) in
        let body : x.body ≡ y.body = same_Some x.body y.body (sym x.there ∙ there) in
        let due : x.due ≡ y.due = ap (λ (q : ℕ × ℕ). q.0) both in
        let serial : base + i ≡ y.serial = ap (λ (q : ℕ × ℕ). q.1) both in
        let same : item_of (base + i) (x.due, x.body) ≡ y = λ j. record { due = due j; serial = serial j; body = body j } in
        sym (ap (λ o. option_map (item_of (base + i)) o) (found_slot keys bodies places i k (base + i) here x) ∙ ap (λ z. Some z) same)

  pub within_slots : (keys : List (Option (ℕ × ℕ))) (bodies : List (Option B)) (places : List (Option ℕ)) (slots : List (Option (ℕ × B))) (i : ℕ) → slots_of keys bodies places ≡ slots
      → i < length slots → i < length places
  within_slots keys bodies places slots i is lt =
      let l = length_slots keys bodies places in
      let same : length (slots_of keys bodies places) ≡ length slots = ap (λ s. length s) is in
      omega arith

  -- no item has the next serial
  pub fresh_next : (keys : List (Option (ℕ × ℕ))) (bodies : List (Option B)) (places : List (Option ℕ)) (base count serial : ℕ) → IsSparse keys bodies places base count
      → index_at places (serial - base) ≡ None → (k d : ℕ) → key_at keys k ≢ Some (d, serial)
  fresh_next keys bodies places base count serial sparse none k d h = none-some k (sym none ∙ sparse.placed k d serial h)

  -- the first key is that of the first slot
  pub first_slot : (keys : List (Option (ℕ × ℕ))) (bodies : List (Option B)) (places : List (Option ℕ)) (base count p : ℕ) (d s : ℕ) → IsSparse keys bodies places base count
      → IsFirst p keys → key_at keys p ≡ Some (d, s) → IsFirstSlot (s - base) (slots_of keys bodies places)
  first_slot keys bodies places base count p d s sparse first is =
      let both : (first.due, first.serial) ≡ (d, s) = same_Some (first.due, first.serial) (d, s) (sym first.there ∙ is) in
      let due : first.due ≡ d = ap (λ (q : ℕ × ℕ). q.0) both in
      let serial : first.serial ≡ s = ap (λ (q : ℕ × ℕ). q.1) both in
      let from : base ≤ s = sparse.from p d s is in
      let index = sparse.placed p d s is in
      let x = sparse.found (s - base) p index in
      let there = found_slot keys bodies places (s - base) p (base + (s - base)) index x in
      let xd : (x.due, base + (s - base)) ≡ (d, s) = same_Some (x.due, base + (s - base)) (d, s) (sym x.key ∙ is) in
      let x_due : x.due ≡ d = ap (λ (q : ℕ × ℕ). q.0) xd in
      record {
        entry = (x.due, x.body);
        there = there;
        least = λ j e h.
            let k = some_index keys bodies places j e h in
            let y = sparse.found j k.0 k.1 in
            let same : (y.due, y.body) ≡ e = same_Some (y.due, y.body) e (sym (found_slot keys bodies places j k.0 (base + j) k.1 y) ∙ h) in
            let y_due : y.due ≡ e.0 = ap (λ (q : ℕ × B). q.0) same in
            ⊎_elim
            (λ (lt : first.due < y.due). inl (omega arith))
            (λ (le : (first.due ≡ y.due) × (first.serial ≤ base + j)). let a = le.0 in let b = le.1 in inr (omega arith, omega arith))
            (first.least k.0 y.due (base + j) y.key);
      }

  pub no_slot : (keys : List (Option (ℕ × ℕ))) (bodies : List (Option B)) (places : List (Option ℕ)) (base count : ℕ) → IsSparse keys bodies places base count → HasNone keys
      → HasNoItem (slots_of keys bodies places)
  no_slot keys bodies places base count sparse none i = go (index_at places i) refl
    where
      go : (p : Option ℕ) → index_at places i ≡ p → at (slots_of keys bodies places) i ≡ None
      go None q = empty_slot keys bodies places i q
      go (Some k) q = let x = sparse.found i k q in absurd (none-some (x.due, base + i) (sym (none k) ∙ x.key))

  -- an empty slot before the others
  pub widened_sparse : (keys : List (Option (ℕ × ℕ))) (bodies : List (Option B)) (places : List (Option ℕ)) (base count : ℕ) → 0 < base → IsSparse keys bodies places base count
      → IsSparse keys bodies (None ∷ places) (base - 1) count
  widened_sparse keys bodies places base count some sparse = record {
    found = found;
    from = λ k d s h. let f : base ≤ s = sparse.from k d s h in omega arith;
    placed = λ k d s h.
        let f : base ≤ s = sparse.from k d s h in
        let e : s - (base - 1) ≡ suc (s - base) = omega arith in
        ap (λ (j : ℕ). index_at (None ∷ places) j) e ∙ sparse.placed k d s h;
    counted = let e : base ≡ base - 1 + 1 = omega arith in sparse.counted ∙ ap (λ (n : ℕ). length (items_from n (slots_of keys bodies places))) e;
  }
    where
      found : (i k : ℕ) → index_at (None ∷ places) i ≡ Some k → IsStored keys bodies k (base - 1 + i)
      found zero k h = absurd (none-some k h)
      found (suc i) k h = let e : base + i ≡ base - 1 + suc i = omega arith in subst (λ (s : ℕ). IsStored keys bodies k s) e (sparse.found i k h)

  -- the empty slot at the front is dropped
  pub trimmed_sparse : (keys : List (Option (ℕ × ℕ))) (bodies : List (Option B)) (places : List (Option ℕ)) (base count : ℕ) → IsSparse keys bodies (None ∷ places) base count
      → IsSparse keys bodies places (base + 1) count
  trimmed_sparse keys bodies places base count sparse = record {
    found = λ i k h. let e : base + suc i ≡ base + 1 + i = omega arith in subst (λ (s : ℕ). IsStored keys bodies k s) e (sparse.found (suc i) k h);
    from = λ k d s h. let f : base ≤ s = sparse.from k d s h in past k s f (s - base) refl (sparse.placed k d s h);
    placed = λ k d s h.
        let f : base ≤ s = sparse.from k d s h in
        let later : base + 1 ≤ s = past k s f (s - base) refl (sparse.placed k d s h) in
        let e : s - base ≡ suc (s - (base + 1)) = omega arith in
        sym (ap (λ (j : ℕ). index_at (None ∷ places) j) e) ∙ sparse.placed k d s h;
    counted = sparse.counted;
  }
    where
      past : (k s : ℕ) → base ≤ s → (n : ℕ) → s - base ≡ n → index_at (None ∷ places) n ≡ Some k → base + 1 ≤ s
      past k s f zero e h = absurd (none-some k h)
      past k s f (suc n) e h = omega arith

  -- the empty slot behind the others is dropped
  pub shortened_slots : (keys : List (Option (ℕ × ℕ))) (bodies : List (Option B)) (places : List (Option ℕ)) → slots_of keys bodies (places ++ None ∷ []) ≡ slots_of keys bodies places ++ None ∷ []
  shortened_slots keys bodies places = map_push (slot_of keys bodies) places None

  pub shortened_sparse : (keys : List (Option (ℕ × ℕ))) (bodies : List (Option B)) (places : List (Option ℕ)) (base count : ℕ) → IsSparse keys bodies (places ++ None ∷ []) base count
      → IsSparse keys bodies places base count
  shortened_sparse keys bodies places base count sparse = record {
    found = λ i k h. sparse.found i k (spot_none i places ∙ h);
    from = sparse.from;
    placed = λ k d s h. sym (spot_none (s - base) places) ∙ sparse.placed k d s h;
    counted = sparse.counted ∙ ap (λ s. length (items_from base s)) (shortened_slots keys bodies places) ∙ ap (λ xs. length xs) (items-none base (slots_of keys bodies places));
  }
