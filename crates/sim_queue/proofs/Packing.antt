-- Items that are put back one after the other, in the order of their places.
use Rattle.std.specs.Prelude.{◌≡◌, ◌≢◌, ℕ, zero, suc, length, ◌+◌, ◌-◌, ◌<◌, ◌≤◌, List, [], ◌∷◌, ◌++◌, Option, Some, None, is_some}
use Rattle.std.proofs.Common.{refl, sym, ap, ◌∙◌, subst, arith, take, ⊎_elim, Result, Ok, Err, OnOk, replicate, length-append}
use Rattle.std.proofs.Math.ListN.{get_or, set, length-set}
use Rattle.std.proofs.lemmas.List.{take_more, length-replicate, append-nil, get_or-take, get_or_past, get_or-set_same, get_or-set_other}
use Rattle.std.proofs.Common.{length-take}
use Rattle.std.proofs.lemmas.Bool.{false≢true, cases_eq, cases_lt}
use Rattle.std.proofs.lemmas.Option.{same_Some}
use Rattle.std.specs.Option.{option_map}
use Rattle.sim_queue.specs.declared.Item.{Item}
use Rattle.sim_queue.specs.Packed.{put_all, CanPutAll, nothing, packed}
use Rattle.sim_queue.specs.Pending.{Pending, put_back, with_serial, IsPending}
use Rattle.sim_queue.specs.Items.{item_of, items_from, pending}
use Rattle.sim_queue.specs.inside.Slots.{at}
use Rattle.sim_queue.specs.inside.Sparse.{index_at, body_at, entry, slot_of, slots_of, item_at, items_at, IsStored, IsSparse}
use Rattle.sim_queue.specs.inside.Wheel.{key_at, HasNone, HasSame}
use Rattle.sim_queue.proofs.Laws.{not_found, length-put_back}
use Rattle.sim_queue.proofs.Views.{with-at, put_again}
use Rattle.sim_queue.proofs.Sparse.{same_spots, spot_within, at_slots, length_slots, kept_slots}

-- empty slots have no items
empty_items : {B : Type 0} (n base : ℕ) (slots : List (Option (ℕ × B))) → slots ≡ replicate n None → items_from base slots ≡ []
empty_items {B} n base slots is = ap (λ xs. items_from base xs) is ∙ none n base
  where
    none : (n base : ℕ) → items_from {B = B} base (replicate n None) ≡ []
    none zero base = refl
    none (suc n) base = none n (base + 1)

pub empty_pending : {B : Type 0} (n base : ℕ) (slots : List (Option (ℕ × B))) → slots ≡ replicate n None → pending base slots ≡ nothing (base + n)
empty_pending n base slots is =
    let next : base + length slots ≡ base + n = ap (λ xs. base + length xs) is ∙ ap (λ (m : ℕ). base + m) (length-replicate n None) in
    λ i. record { items = empty_items n base slots is i; next_serial = next i }

pub taken_more : {X : Type 0} (xs : List X) (i : ℕ) (y : X) → i < length xs → y ≡ get_or xs i y → take i xs ++ y ∷ [] ≡ take (i + 1) xs
taken_more xs i y inside read = ap (λ z. take i xs ++ z ∷ []) read ∙ sym (take_more xs i y inside)

-- what follows where there is a result
pub on_ok : {X E P Q : Type 0} (r : Result X E) → (P → Q) → OnOk r P → OnOk r Q
on_ok (Ok x) f h = f h
on_ok (Err e) f h = tt

pub option_twice : {X Y Z : Type 0} (f : X → Y) (g : Y → Z) (o : Option X) → option_map (λ x. g (f x)) o ≡ option_map g (option_map f o)
option_twice f g None = refl
option_twice f g (Some x) = refl

module _ {B : Type 0} where
  -- one more item
  pub put_all-more : (items : List (Item B)) (x : Item B) (q : Pending B) → put_all (items ++ x ∷ []) q ≡ put_back x (put_all items q)
  put_all-more [] x q = refl
  put_all-more (y ∷ items) x q = put_all-more items x (put_back y q)

  can_more : (items : List (Item B)) (x : Item B) (q : Pending B) → CanPutAll items q → x.serial < (put_all items q).next_serial → ¬ (IsPending x.serial (put_all items q))
      → CanPutAll (items ++ x ∷ []) q
  can_more [] x q can made absent = (made, absent, tt)
  can_more (y ∷ items) x q can made absent = (can.0, can.1, can_more items x (put_back y q) can.2 made absent)

  -- an item can be put in once those before it are
  pub can_at : (items : List (Item B)) (i : ℕ) (x : Item B) (q : Pending B) → i < length items → x ≡ get_or items i x → CanPutAll items q
      → (x.serial < (put_all (take i items) q).next_serial) × ¬ (IsPending x.serial (put_all (take i items) q))
  can_at [] i x q inside read can = absurd (omega arith)
  can_at (y ∷ items) zero x q inside read can =
      let e : y.serial ≡ x.serial = ap (λ (z : Item B). z.serial) (sym read) in
      (subst (λ (n : ℕ). n < q.next_serial) e can.0, subst (λ (n : ℕ). ¬ (IsPending n q)) e can.1)
  can_at (y ∷ items) (suc i) x q inside read can = can_at items i x (put_back y q) (omega arith) read can.2

  -- each of the items is one more
  length-put_all : (items : List (Item B)) (q : Pending B) → CanPutAll items q → length (put_all items q).items ≡ length q.items + length items
  length-put_all [] q can = omega arith
  length-put_all (x ∷ items) q can =
      let one : length (put_back x q).items ≡ length q.items + 1 = length-put_back x q.items (not_found x.serial q.items can.1) in
      let rest : length (put_all items (put_back x q)).items ≡ length (put_back x q).items + length items = length-put_all items (put_back x q) can.2 in
      omega arith

  -- the items at more places
  items_at-none : (n : ℕ) (keys : List (Option (ℕ × ℕ))) (bodies : List (Option B)) → key_at keys n ≡ None → items_at (suc n) keys bodies ≡ items_at n keys bodies
  items_at-none n keys bodies none = ap (λ o. items_at n keys bodies ++ item_at o (body_at bodies n)) none ∙ append-nil (items_at n keys bodies)

  items_at-some : (n d s : ℕ) (b : B) (keys : List (Option (ℕ × ℕ))) (bodies : List (Option B)) → key_at keys n ≡ Some (d, s) → body_at bodies n ≡ Some b
      → items_at (suc n) keys bodies ≡ items_at n keys bodies ++ record { due = d; serial = s; body = b } ∷ []
  items_at-some n d s b keys bodies key there =
      ap (λ o. items_at n keys bodies ++ item_at o (body_at bodies n)) key ∙ ap (λ o. items_at n keys bodies ++ item_at (Some (d, s)) o) there

  pub more_none : (n : ℕ) (keys : List (Option (ℕ × ℕ))) (bodies : List (Option B)) (items : List (Item B)) → items ≡ items_at n keys bodies → None ≡ key_at keys n
      → items ≡ items_at (n + 1) keys bodies
  more_none n keys bodies items so_far none =
      let e : suc n ≡ n + 1 = omega arith in
      so_far ∙ sym (items_at-none n keys bodies (sym none)) ∙ ap (λ (m : ℕ). items_at m keys bodies) e

  pub more_some : (n d s : ℕ) (b : B) (keys : List (Option (ℕ × ℕ))) (bodies : List (Option B)) (items : List (Item B)) → items ≡ items_at n keys bodies
      → Some (d, s) ≡ key_at keys n → body_at bodies n ≡ Some b → items ++ record { due = d; serial = s; body = b } ∷ [] ≡ items_at (n + 1) keys bodies
  more_some n d s b keys bodies items so_far key there =
      let e : suc n ≡ n + 1 = omega arith in
      ap (λ xs. xs ++ record { due = d; serial = s; body = b } ∷ []) so_far ∙ sym (items_at-some n d s b keys bodies (sym key) there) ∙ ap (λ (m : ℕ). items_at m keys bodies) e

  -- no more items where there are no more keys
  past_go : (d n : ℕ) (keys : List (Option (ℕ × ℕ))) (bodies : List (Option B)) → ((k : ℕ) → n ≤ k → k < d + n → key_at keys k ≡ None)
      → items_at n keys bodies ≡ items_at (d + n) keys bodies
  past_go zero n keys bodies none = let e : n ≡ zero + n = omega arith in ap (λ (m : ℕ). items_at m keys bodies) e
  past_go (suc d) n keys bodies none =
      let e : suc (d + n) ≡ suc d + n = omega arith in
      past_go d n keys bodies (λ k ge lt. none k ge (omega arith)) ∙ sym (items_at-none (d + n) keys bodies (none (d + n) (omega arith) (omega arith)))
      ∙ ap (λ (m : ℕ). items_at m keys bodies) e

  pub items_past : (n m : ℕ) (keys : List (Option (ℕ × ℕ))) (bodies : List (Option B)) → n ≤ m → ((k : ℕ) → n ≤ k → k < m → key_at keys k ≡ None)
      → items_at n keys bodies ≡ items_at m keys bodies
  items_past n m keys bodies le none =
      let e : m - n + n ≡ m = omega arith in
      past_go (m - n) n keys bodies (λ k ge lt. none k ge (omega arith)) ∙ ap (λ (k : ℕ). items_at k keys bodies) e

  fewer_go : (d n : ℕ) (keys : List (Option (ℕ × ℕ))) (bodies : List (Option B)) → length (items_at n keys bodies) ≤ length (items_at (d + n) keys bodies)
  fewer_go zero n keys bodies = let e : zero + n ≡ n = omega arith in subst (λ (m : ℕ). length (items_at n keys bodies) ≤ length (items_at m keys bodies)) (sym e) (omega arith)
  fewer_go (suc d) n keys bodies =
      let e : suc d + n ≡ suc (d + n) = omega arith in
      let before = fewer_go d n keys bodies in
      let l = length-append (items_at (d + n) keys bodies) (item_at (key_at keys (d + n)) (body_at bodies (d + n))) in
      subst (λ (m : ℕ). length (items_at n keys bodies) ≤ length (items_at m keys bodies)) (sym e) (omega arith)

  -- before a place with an item there are fewer items than at all places
  pub fewer_items : (n m d s : ℕ) (b : B) (keys : List (Option (ℕ × ℕ))) (bodies : List (Option B)) → n < m → Some (d, s) ≡ key_at keys n → body_at bodies n ≡ Some b
      → length (items_at n keys bodies) < length (items_at m keys bodies)
  fewer_items n m d s b keys bodies lt key there =
      let e : m - suc n + suc n ≡ m = omega arith in
      let rest : length (items_at (suc n) keys bodies) ≤ length (items_at m keys bodies) =
      subst (λ (k : ℕ). length (items_at (suc n) keys bodies) ≤ length (items_at k keys bodies)) e (fewer_go (m - suc n) (suc n) keys bodies) in
      let one : length (items_at (suc n) keys bodies) ≡ length (items_at n keys bodies ++ record { due = d; serial = s; body = b } ∷ []) =
      ap (λ xs. length xs) (items_at-some n d s b keys bodies (sym key) there) in
      let l = length-append (items_at n keys bodies) (record { due = d; serial = s; body = b } ∷ []) in
      omega arith

  -- without keys all slots are empty
  no_keys : (keys : List (Option (ℕ × ℕ))) (bodies : List (Option B)) (places : List (Option ℕ)) → HasNone keys → slots_of keys bodies places ≡ replicate (length places) None
  no_keys keys bodies [] none = refl
  no_keys keys bodies (None ∷ places) none = ap (λ s. None ∷ s) (no_keys keys bodies places none)
  no_keys keys bodies (Some k ∷ places) none =
      ap (λ o. entry o (body_at bodies k) ∷ slots_of keys bodies places) (none k) ∙ ap (λ s. None ∷ s) (no_keys keys bodies places none)

  module _ (keys : List (Option (ℕ × ℕ))) (bodies : List (Option B)) (places : List (Option ℕ)) (base count : ℕ) (sparse : IsSparse keys bodies places base count) where
    abbrev next : ℕ
    next = base + length places

    -- the keys at the first places, and the slots by these alone
    abbrev keys_to : ℕ → List (Option (ℕ × ℕ))
    keys_to n = take (n + 256) keys

    abbrev slots_to : ℕ → List (Option (ℕ × B))
    slots_to n = slots_of (keys_to n) bodies places

    key_before : (n k : ℕ) → k < n → key_at (keys_to n) k ≡ key_at keys k
    key_before n k lt = get_or-take (n + 256) keys (k + 256) None (omega arith)

    key_past : (n k : ℕ) → n ≤ k → key_at (keys_to n) k ≡ None
    key_past n k ge =
        let l = length-take (n + 256) keys in
        get_or_past (keys_to n) (k + 256) None (omega arith)

    -- one more place changes no other key
    other_key : (n k : ℕ) → k ≢ n → key_at (keys_to (suc n)) k ≡ key_at (keys_to n) k
    other_key n k ne = ⊎_elim
        (λ (lt : k < n). key_before (suc n) k (omega arith) ∙ sym (key_before n k lt))
        (λ (ge : n ≤ k). key_past (suc n) k (omega arith) ∙ sym (key_past n k ge))
        (cases_lt k n)

    -- a place without an item
    same_to : (n : ℕ) → key_at keys n ≡ None → slots_to (suc n) ≡ slots_to n
    same_to n none = kept_slots (keys_to n) (keys_to (suc n)) bodies bodies places
        (λ k. ⊎_elim
        (λ (e : k ≡ n). subst (λ (m : ℕ). key_at (keys_to (suc n)) m ≡ key_at (keys_to n) m) (sym e) (key_before (suc n) n (omega arith) ∙ none ∙ sym (key_past n n (omega arith))))
        (λ (ne : k ≢ n). other_key n k ne)
        (cases_eq k n))
        (λ j. refl)

    -- a place with an item
    module _ (n i : ℕ) (here : index_at places i ≡ Some n) (x : IsStored keys bodies n (base + i)) where
      empty_before : at (slots_to n) i ≡ None
      empty_before =
          at_slots (keys_to n) bodies places i ∙ ap (λ o. slot_of (keys_to n) bodies o) here ∙ ap (λ o. entry o (body_at bodies n)) (key_past n n (omega arith))

      filled_after : at (slots_to (suc n)) i ≡ Some (x.due, x.body)
      filled_after =
          at_slots (keys_to (suc n)) bodies places i ∙ ap (λ o. slot_of (keys_to (suc n)) bodies o) here
          ∙ ap (λ o. entry o (body_at bodies n)) (key_before (suc n) n (omega arith) ∙ x.key) ∙ ap (λ o. entry (Some (x.due, base + i)) o) x.there

      other_slot : (j : ℕ) → j ≢ i → at (slots_to (suc n)) j ≡ at (slots_to n) j
      other_slot j ne = at_slots (keys_to (suc n)) bodies places j ∙ go (index_at places j) refl ∙ sym (at_slots (keys_to n) bodies places j)
        where
          go : (p : Option ℕ) → index_at places j ≡ p → slot_of (keys_to (suc n)) bodies p ≡ slot_of (keys_to n) bodies p
          go None q = refl
          go (Some k) q =
              let apart : k ≢ n = λ e.
              let y = sparse.found j k q in
              let both : (x.due, base + i) ≡ (y.due, base + j) = same_Some (x.due, base + i) (y.due, base + j) (sym x.key ∙ ap (λ (m : ℕ). key_at keys m) (sym e) ∙ y.key) in
              let same : base + i ≡ base + j = ap (λ (p : ℕ × ℕ). p.1) both in
              ne (omega arith) in
              ap (λ o. entry o (body_at bodies k)) (other_key n k apart)

      within : i < length (slots_to n)
      within = let l = length_slots (keys_to n) bodies places in let lt = spot_within places i n here in omega arith

      one_slot : slots_to (suc n) ≡ set (slots_to n) i (Some (x.due, x.body))
      one_slot =
          same_spots (slots_to (suc n)) (set (slots_to n) i (Some (x.due, x.body)))
          (length_slots (keys_to (suc n)) bodies places ∙ sym (length_slots (keys_to n) bodies places) ∙ sym (length-set (slots_to n) i (Some (x.due, x.body))))
          (λ j. ⊎_elim
          (λ (e : j ≡ i). subst (λ (m : ℕ). at (slots_to (suc n)) m ≡ at (set (slots_to n) i (Some (x.due, x.body))) m) (sym e)
          (filled_after ∙ sym (get_or-set_same (slots_to n) i (Some (x.due, x.body)) None within)))
          (λ (ne : j ≢ i). other_slot j ne ∙ sym (get_or-set_other (slots_to n) i j (Some (x.due, x.body)) None ne))
          (cases_eq j i))

      abbrev item : Item B
      item = item_of (base + i) (x.due, x.body)

      absent : with_serial (base + i) (items_from base (slots_to n)) ≡ None
      absent = with-at base i (slots_to n) ∙ ap (λ o. option_map (item_of (base + i)) o) empty_before

      one_more : pending base (slots_to (suc n)) ≡ put_back item (pending base (slots_to n))
      one_more =
          let e : i ≡ base + i - base = omega arith in
          let lt = within in
          put_again item base (slots_to n) (slots_to (suc n)) (omega arith) (omega arith) absent (one_slot ∙ ap (λ (m : ℕ). set (slots_to n) m (Some (x.due, x.body))) e)

    -- what the items at the first places are
    pub record IsSoFar (n : ℕ) : Type 0 where
      pub value : packed (items_at n keys bodies) next ≡ pending base (slots_to n)
      pub can : CanPutAll (items_at n keys bodies) (nothing next)

    so_far : (n : ℕ) → IsSoFar n
    so_far zero = record {
      value = sym (empty_pending (length places) base (slots_to zero) (no_keys (keys_to zero) bodies places (λ k. key_past zero k (omega arith))));
      can = tt;
    }
    so_far (suc n) = go (key_at keys n) refl (so_far n)
      where
        go : (key : Option (ℕ × ℕ)) → key_at keys n ≡ key → IsSoFar n → IsSoFar (suc n)
        go None none before =
            let same = items_at-none n keys bodies none in
            record {
              value = ap (λ xs. packed xs next) same ∙ before.value ∙ ap (λ s. pending base s) (sym (same_to n none));
              can = subst (λ xs. CanPutAll xs (nothing next)) (sym same) before.can;
            }
        go (Some key) is before =
            let i = key.1 - base in
            let here : index_at places i ≡ Some n = sparse.placed n key.0 key.1 is in
            let x = sparse.found i n here in
            let y : Item B = item n i here x in
            let more : items_at (suc n) keys bodies ≡ items_at n keys bodies ++ y ∷ [] = items_at-some n x.due (base + i) x.body keys bodies x.key x.there in
            let there : (packed (items_at n keys bodies) next).next_serial ≡ base + length (slots_to n) = ap (λ (q : Pending B). q.next_serial) before.value in
            let lt = within n i here x in
            let none : ¬ (IsPending (base + i) (packed (items_at n keys bodies) next)) = λ p.
            false≢true (ap (λ o. is_some o) (sym (absent n i here x)) ∙ subst (λ (q : Pending B). IsPending (base + i) q) before.value p) in
            record {
              value = ap (λ xs. packed xs next) more ∙ put_all-more (items_at n keys bodies) y (nothing next) ∙ ap (λ q. put_back y q) before.value ∙ sym (one_more n i here x);
              can = subst (λ xs. CanPutAll xs (nothing next)) (sym more) (can_more (items_at n keys bodies) y (nothing next) before.can (omega arith) none);
            }

    -- each key has a body, so all of them are among the first places
    all_keys : HasSame (keys_to (length bodies)) keys
    all_keys k = ⊎_elim
        (λ (lt : k < length bodies). sym (key_before (length bodies) k lt))
        (λ (ge : length bodies ≤ k). go (key_at keys k) refl ge)
        (cases_lt k (length bodies))
      where
        go : (key : Option (ℕ × ℕ)) → key_at keys k ≡ key → length bodies ≤ k → key_at keys k ≡ key_at (keys_to (length bodies)) k
        go None none ge = none ∙ sym (key_past (length bodies) k ge)
        go (Some key) is ge =
            let x = sparse.found (key.1 - base) k (sparse.placed k key.0 key.1 is) in
            let lt = spot_within bodies k x.body x.there in
            absurd (omega arith)

    pub packed_all : packed (items_at (length bodies) keys bodies) next ≡ pending base (slots_of keys bodies places)
    packed_all = (so_far (length bodies)).value ∙ ap (λ s. pending base s) (sym (kept_slots (keys_to (length bodies)) keys bodies bodies places all_keys (λ j. refl)))

    pub can_all : CanPutAll (items_at (length bodies) keys bodies) (nothing next)
    can_all = (so_far (length bodies)).can

    pub count_all : length (items_at (length bodies) keys bodies) ≡ count
    count_all =
        let l = length-put_all (items_at (length bodies) keys bodies) (nothing next) can_all in
        let all : length (packed (items_at (length bodies) keys bodies) next).items ≡ length (items_from base (slots_of keys bodies places)) = ap (λ (q : Pending B). length q.items) packed_all in
        let counted = sparse.counted in
        omega arith
