-- Lemmas on records in a circle of slots.
use Rattle.std.proofs.Common.{◌≡◌, ℕ, suc, ◌⊎◌, ◌+◌, ◌-◌, ◌<◌, ◌≤◌, List, [], ◌∷◌, ◌++◌, length, take, drop, set, get_or, min, refl, sym, ap, ◌∙◌, ⊎_elim, Option, Some, arith, append_assoc, length-append, length-drop, length-take, length-set}
use Rattle.std.proofs.lemmas.Bool.{cases_lt}
use Rattle.std.proofs.lemmas.List.{append-nil, drop_more, take_more, drop_all, take_all, drop-drop, drop-append-le, drop_at, take_at, take-set, drop-set}
use Rattle.circular_buffer.proofs.Places.{slice_get-last}
use Rattle.circular_buffer.specs.Buffer.{keep_last, last_item}
use Rattle.sim_moves.specs.Circle.{around, turned}

module _ {U : Type 0} where
  -- a circle from a slot on begins with the slot
  around_is : (slots : List U) (slot : ℕ) (d : U) → slot < length slots → around slot slots ≡ get_or slots slot d ∷ (drop (slot + 1) slots ++ take slot slots)
  around_is slots slot d lt = ap {B = List U} (λ (us : List U). us ++ take slot slots) (drop_more slots slot d lt)

  -- and from the next slot on it ends with it
  next_is : (slots : List U) (slot : ℕ) (d : U) → slot < length slots → around (slot + 1) slots ≡ (drop (slot + 1) slots ++ take slot slots) ++ get_or slots slot d ∷ []
  next_is slots slot d lt =
      ap {B = List U} (λ (us : List U). drop (slot + 1) slots ++ us) (take_more slots slot d lt)
      ∙ sym (append_assoc (drop (slot + 1) slots) (take slot slots) (get_or slots slot d ∷ []))

  pub around-next : (slots : List U) (slot : ℕ) (d : U) → slot < length slots → around (slot + 1) slots ≡ turned (around slot slots)
  around-next slots slot d lt = next_is slots slot d lt ∙ ap {B = List U} turned (sym (around_is slots slot d lt))

  -- past the last slot the circle begins with the first
  pub around-end : (slots : List U) (slot : ℕ) → slot ≡ length slots → around slot slots ≡ slots
  around-end slots slot is =
      ap {B = List U} (λ (us : List U). us ++ take slot slots) (drop_all slot slots (omega (arith, is)))
      ∙ take_all slot slots (omega (arith, is))

  -- a slot that is new at the end
  pub around-new : (slots : List U) (u : U) → around (length slots) (slots ++ u ∷ []) ≡ u ∷ slots
  around-new slots u =
      ap {B = List U} (λ (us : List U). us ++ take (length slots) (slots ++ u ∷ [])) (drop_at slots (u ∷ []) (length slots) refl)
      ∙ ap {B = List U} (λ (us : List U). u ∷ us) (take_at slots (u ∷ []) (length slots) refl)

  pub length-around : (slots : List U) (slot : ℕ) → slot ≤ length slots → length (around slot slots) ≡ length slots
  length-around slots slot le =
      omega (arith, length-append (drop slot slots) (take slot slots), length-drop slot slots, length-take slot slots, le)

  -- what is written to a slot
  pub around-set : (slots : List U) (slot : ℕ) (u d : U) → slot < length slots
      → around slot (set slots slot u) ≡ u ∷ (drop (slot + 1) slots ++ take slot slots)
  around-set slots slot u d lt =
      ap {B = List U} (λ (us : List U). us ++ take slot (set slots slot u)) (drop-set slots slot u lt)
      ∙ ap {B = List U} (λ (us : List U). u ∷ (drop (slot + 1) slots ++ us)) (take-set slots slot u)

  last-of : (k : ℕ) (xs : List U) (u : U) → k ≤ length xs → keep_last (k + 1) (xs ++ u ∷ []) ≡ keep_last k xs ++ u ∷ []
  last-of k xs u le =
      let len : length (xs ++ u ∷ []) - (k + 1) ≡ length xs - k = omega (arith, length-append xs (u ∷ [])) in
      ap {B = List U} (λ (n : ℕ). drop n (xs ++ u ∷ [])) len ∙ drop-append-le (length xs - k) xs (u ∷ []) (omega arith)

  last-but : (k : ℕ) (xs : List U) (u : U) → k ≤ length xs → keep_last k (u ∷ xs) ≡ keep_last k xs
  last-but k xs u le =
      let len : length (u ∷ xs) - k ≡ suc (length xs - k) = omega (arith, le) in
      ap {B = List U} (λ (n : ℕ). drop n (u ∷ xs)) len

  whole : (k : ℕ) (xs : List U) → length xs ≤ k → keep_last k xs ≡ xs
  whole k xs le =
      let none : length xs - k ≡ 0 = omega (arith, le) in
      ap {B = List U} (λ (n : ℕ). drop n xs) none

  -- the last none
  pub none-kept : (xs : List U) → keep_last 0 xs ≡ []
  none-kept xs = drop_all (length xs - 0) xs (omega arith)

  keep-keep : (k n : ℕ) (xs : List U) → k ≤ n → n ≤ length xs → keep_last k (keep_last n xs) ≡ keep_last k xs
  keep-keep k n xs le within =
      let len : length xs - n + (length (drop (length xs - n) xs) - k) ≡ length xs - k = omega (arith, length-drop (length xs - n) xs, le, within) in
      drop-drop (length (drop (length xs - n) xs) - k) (length xs - n) xs ∙ ap {B = List U} (λ (m : ℕ). drop m xs) len

  -- past a slot the circle goes on to the next one
  pub turned_on : (slots : List U) (slot : ℕ) → slot < length slots → keep_last (length slots) (around (slot + 1) slots) ≡ turned (around slot slots)
  turned_on [] slot lt = absurd (omega (arith, lt))
  turned_on (d ∷ ds) slot lt =
      let slots : List U = d ∷ ds in
      whole (length slots) (around (slot + 1) slots) (omega (arith, length-around slots (slot + 1) (omega (arith, lt)), lt)) ∙ around-next slots slot d lt

  -- and past the last one to the first
  pub turned_over : (slots : List U) (slot : ℕ) → slot < length slots → length slots ≤ slot + 1 → slots ≡ turned (around slot slots)
  turned_over slots slot lt last =
      let end : slot + 1 ≡ length slots = omega (arith, lt, last) in
      sym (around-end slots (slot + 1) end)
      ∙ sym (whole (length slots) (around (slot + 1) slots) (omega (arith, length-around slots (slot + 1) (omega (arith, end)), end)))
      ∙ turned_on slots slot lt

  -- A record was filled in the free slot, and the circle turned: it is kept as the newest.
  pub filled : (slots news : List U) (slot len more cap : ℕ) (u d : U) → slot < length slots → len < length slots → length slots ≤ cap + 1 → length slots ≤ length news
      → more ≡ min (len + 1) cap
      → keep_last (length slots) news ≡ turned (around slot (set slots slot u))
      → keep_last more news ≡ keep_last cap (keep_last len (around slot slots) ++ u ∷ [])
  filled slots news slot len more cap u d lt few most longer count is =
      let grows : len < cap → more ≡ len + 1 = λ l. omega (arith, count, l) in
      let stays : cap ≤ len → more ≡ len = λ l. omega (arith, count, l, few, most) in
      let rest : List U = drop (slot + 1) slots ++ take slot slots in
      let length-rest : length rest + 1 ≡ length slots =
      omega (arith, length-append (drop (slot + 1) slots) (take slot slots), length-drop (slot + 1) slots, length-take slot slots, lt) in
      let new : keep_last (length slots) news ≡ rest ++ u ∷ [] = is ∙ ap {B = List U} turned (around-set slots slot u d lt) in
      let old : keep_last len (around slot slots) ≡ keep_last len rest =
      ap {B = List U} (λ (us : List U). keep_last len us) (around_is slots slot d lt) ∙ last-but len rest (get_or slots slot d) (omega (arith, length-rest, few)) in
      let pushed : keep_last len (around slot slots) ++ u ∷ [] ≡ keep_last (len + 1) (rest ++ u ∷ []) =
      ap {B = List U} (λ (us : List U). us ++ u ∷ []) old ∙ sym (last-of len rest u (omega (arith, length-rest, few))) in
      let full : length (rest ++ u ∷ []) ≡ length slots = omega (arith, length-append rest (u ∷ []), length-rest) in
      let here : keep_last more news ≡ keep_last more (rest ++ u ∷ []) =
      sym (keep-keep more (length slots) news (⊎_elim
      (λ (l : len < cap). omega (arith, grows l, few))
      (λ (l : cap ≤ len). omega (arith, stays l, few))
      (cases_lt len cap)) longer)
      ∙ ap {B = List U} (λ (us : List U). keep_last more us) new in
      let there : keep_last cap (keep_last (len + 1) (rest ++ u ∷ [])) ≡ keep_last more (rest ++ u ∷ []) =
      ⊎_elim
      (λ (l : len < cap). whole cap (keep_last (len + 1) (rest ++ u ∷ [])) (omega (arith, length-drop (length (rest ++ u ∷ []) - (len + 1)) (rest ++ u ∷ []), full, few, l))
      ∙ ap {B = List U} (λ (k : ℕ). keep_last k (rest ++ u ∷ [])) (sym (grows l)))
      (λ (l : cap ≤ len). keep-keep cap (len + 1) (rest ++ u ∷ []) (omega (arith, l)) (omega (arith, full, few))
      ∙ ap {B = List U} (λ (k : ℕ). keep_last k (rest ++ u ∷ [])) (omega (arith, stays l, l, few, most)))
      (cases_lt len cap) in
      here ∙ sym (ap {B = List U} (λ (us : List U). keep_last cap us) pushed ∙ there)

  -- with a record fewer there are as many slots
  pub fewer : (slots : List U) (free slot len cap : ℕ) (u : U) → 0 < len → len < length slots → length slots ≤ cap + 1 → (length slots ≤ cap → len ≤ free) → slot < length slots
      → (free ≡ slot + 1) ⊎ ((free ≡ 0) × (slot + 1 ≡ length slots))
      → (slot < length (set slots slot u)) × (len - 1 < length (set slots slot u)) × (length (set slots slot u) ≤ cap + 1) × (length (set slots slot u) ≤ cap → len - 1 ≤ slot)
  fewer slots free slot len cap u some few most behind inside before =
      let same = length-set slots slot u in (
        omega (arith, same, inside),
        omega (arith, same, few),
        omega (arith, same, most),
        λ small.
            let now = behind (omega (arith, same, small)) in
            ⊎_elim
            (λ (is : free ≡ slot + 1). omega (arith, now, is))
            (λ (is : (free ≡ 0) × (slot + 1 ≡ length slots)). absurd (omega (arith, now, some, is.0)))
            before,
      )

  -- what is there of the newest record, in the slot before the free one
  pub record Newest (slots : List U) (slot len : ℕ) (items : List U) (u d : U) : Type 0 where
    pub last : last_item items ≡ Some (get_or slots slot d)
    pub others : keep_last (len - 1) (around slot (set slots slot u)) ≡ take (length items - 1) items

  pub newest : (slots : List U) (free slot len : ℕ) (u d : U) → slot < length slots → 0 < len → len < length slots → (free ≡ slot + 1) ⊎ ((free ≡ 0) × (slot + 1 ≡ length slots))
      → Newest slots slot len (keep_last len (around free slots)) u d
  newest slots free slot len u d lt some few before =
      let rest : List U = drop (slot + 1) slots ++ take slot slots in
      let v : U = get_or slots slot d in
      let length-rest : length rest + 1 ≡ length slots =
      omega (arith, length-append (drop (slot + 1) slots) (take slot slots), length-drop (slot + 1) slots, length-take slot slots, lt) in
      let on : around free slots ≡ around (slot + 1) slots = ⊎_elim
      (λ (is : free ≡ slot + 1). ap {B = List U} (λ (k : ℕ). around k slots) is)
      (λ (is : (free ≡ 0) × (slot + 1 ≡ length slots)). ap {B = List U} (λ (k : ℕ). around k slots) is.0 ∙ append-nil slots ∙ sym (around-end slots (slot + 1) is.1))
      before in
      let k : ℕ = len - 1 in
      let up : len ≡ k + 1 = omega (arith, some) in
      let items : keep_last len (around free slots) ≡ keep_last k rest ++ v ∷ [] =
      ap {B = List U} (λ (us : List U). keep_last len us) (on ∙ next_is slots slot d lt)
      ∙ ap {B = List U} (λ (n : ℕ). keep_last n (rest ++ v ∷ [])) up
      ∙ last-of k rest v (omega (arith, length-rest, few)) in
      let here : keep_last k (around slot (set slots slot u)) ≡ keep_last k rest =
      ap {B = List U} (λ (us : List U). keep_last k us) (around-set slots slot u d lt) ∙ last-but k rest u (omega (arith, length-rest, few)) in
      let len1 : length (keep_last k rest ++ v ∷ []) - 1 ≡ length (keep_last k rest) = omega (arith, length-append (keep_last k rest) (v ∷ [])) in
      record {
        last = ap {B = Option U} (λ (us : List U). last_item us) items ∙ slice_get-last (keep_last k rest) v (length (keep_last k rest ++ v ∷ []) - 1) len1;
        others = here
            ∙ sym (ap {B = List U} (λ (us : List U). take (length us - 1) us) items
            ∙ take_at (keep_last k rest) (v ∷ []) (length (keep_last k rest ++ v ∷ []) - 1) (sym len1));
      }
