-- Empty slots before others.
use Rattle.std.proofs.Common.{◌≡◌, ℕ, zero, suc, ◌+◌, ◌-◌, ◌<◌, ◌≤◌, List, [], ◌∷◌, ◌++◌, Option, None, refl, sym, ap, subst, ◌∙◌, arith, length, take, drop, replicate, Result, Ok, Err, OnOk, OnErr}
use Rattle.std.proofs.Math.ListN.{get_or}
use Rattle.std.proofs.Math.Seq.{paste, take-append_seam, drop-append_seam}
use Rattle.std.proofs.lemmas.List.Edits.{paste_all}
use Rattle.std.proofs.lemmas.List.{length-drop, take_all}
use Rattle.sim_queue.specs.Items.{pending}
use Rattle.sim_queue.specs.inside.Sparse.{slots_of, IsSparse}
use Rattle.sim_queue.proofs.Sparse.{trimmed_sparse, widened_sparse}
use Rattle.sim_queue.proofs.Views.{pending_trimmed}

-- what follows from a result of either kind
pub either : {X E P Q R : Type 0} (r : Result X E) → OnOk r P → OnErr r Q → (P → R) → (Q → R) → R
either (Ok x) p q f g = f p
either (Err e) p q f g = g q

module _ {X : Type 0} where
  -- the first spots, which are empty, and the others
  empty_front : (n : ℕ) (xs : List (Option X)) → n ≤ length xs → ((i : ℕ) → i < n → get_or xs i None ≡ None) → xs ≡ replicate n None ++ drop n xs
  empty_front zero xs within none = refl
  empty_front (suc n) [] within none = absurd (omega arith)
  empty_front (suc n) (x ∷ xs) within none =
      ap (λ o. o ∷ xs) (none 0 (omega arith)) ∙ ap (λ ys. None ∷ ys) (empty_front n xs (omega arith) (λ i below. none (suc i) (omega arith)))

  -- the other spots are copied to the front, and those behind them are cut off
  cut_front : (n : ℕ) (xs : List (Option X)) → n ≤ length xs → take (length xs - n) (paste xs 0 (drop n xs) (length xs - n)) ≡ drop n xs
  cut_front n xs within =
      let left : length xs - n ≡ length (drop n xs) = sym (length-drop n xs) in
      ap (λ (ys : List (Option X)). take (length xs - n) ys) (paste_all xs 0 (drop n xs) (length xs - n) left)
      ∙ ap (λ (m : ℕ). take m (drop n xs ++ drop (0 + (length xs - n)) xs)) left ∙ take-append_seam (drop n xs) (drop (0 + (length xs - n)) xs)

  -- elements that stand behind others are turned to the front
  turned_front : (xs ys : List (Option X)) (len : ℕ) → len ≡ length xs → drop len (xs ++ ys) ++ take len (xs ++ ys) ≡ ys ++ xs
  turned_front xs ys len is =
      ap (λ (n : ℕ). drop n (xs ++ ys) ++ take n (xs ++ ys)) is
      ∙ ap (λ zs. zs ++ take (length xs) (xs ++ ys)) (drop-append_seam xs ys)
      ∙ ap (λ zs. ys ++ zs) (take-append_seam xs ys)

  -- the first spots, which are empty, are dropped
  pub emptied_front : (old moved new : List (Option X)) (count len rest : ℕ) → count ≤ length old → len ≡ length old → rest ≡ len - count → ((i : ℕ) → i < count → get_or old i None ≡ None)
      → moved ≡ paste old 0 (drop count old) (len - count) → new ≡ take rest moved → old ≡ replicate count None ++ new
  emptied_front old moved new count len rest within whole is none move cut =
      let left : new ≡ drop count old =
      cut ∙ ap (λ (xs : List (Option X)). take rest xs) move ∙ ap (λ (n : ℕ). take n (paste old 0 (drop count old) (len - count))) is
      ∙ ap (λ (n : ℕ). take (n - count) (paste old 0 (drop count old) (n - count))) whole ∙ cut_front count old within in
      empty_front count old within none ∙ ap (λ (xs : List (Option X)). replicate count None ++ xs) (sym left)

  -- empty spots are added at the end and turned to the front
  pub widened_front : (old longer new : List (Option X)) (value : Option X) (count len before after : ℕ) → value ≡ None → before ≡ length old → len ≡ before + count → after ≡ len
      → longer ≡ take len old ++ replicate (len - before) value → new ≡ drop (after - count) longer ++ take (after - count) longer → new ≡ replicate count None ++ old
  widened_front old longer new value count len before after none was is now more turn =
      let whole : take len old ≡ old = take_all len old (omega arith) in
      let added : len - before ≡ count = omega arith in
      let at : after - count ≡ length old = omega arith in
      let more' : longer ≡ old ++ replicate count None =
      more ∙ ap (λ (xs : List (Option X)). xs ++ replicate (len - before) value) whole ∙ ap (λ (n : ℕ). old ++ replicate n value) added ∙ ap (λ o. old ++ replicate count o) none in
      turn ∙ ap (λ (xs : List (Option X)). drop (after - count) xs ++ take (after - count) xs) more' ∙ turned_front old (replicate count None) (after - count) at

module _ {B : Type 0} where
  pub slots_behind : (n : ℕ) (keys : List (Option (ℕ × ℕ))) (bodies : List (Option B)) (places : List (Option ℕ)) → slots_of keys bodies (replicate n None ++ places) ≡ replicate n None ++ slots_of keys bodies places
  slots_behind zero keys bodies places = refl
  slots_behind (suc n) keys bodies places = ap (λ s. None ∷ s) (slots_behind n keys bodies places)

  -- empty slots at the front are dropped
  pub dropped_sparse : (n : ℕ) (keys : List (Option (ℕ × ℕ))) (bodies : List (Option B)) (places : List (Option ℕ)) (base count : ℕ) → IsSparse keys bodies (replicate n None ++ places) base count
      → IsSparse keys bodies places (base + n) count
  dropped_sparse zero keys bodies places base count sparse = let same : base ≡ base + 0 = omega arith in subst (λ (b : ℕ). IsSparse keys bodies places b count) same sparse
  dropped_sparse (suc n) keys bodies places base count sparse =
      let same : base + 1 + n ≡ base + suc n = omega arith in
      subst (λ (b : ℕ). IsSparse keys bodies places b count) same (dropped_sparse n keys bodies places (base + 1) count (trimmed_sparse keys bodies (replicate n None ++ places) base count sparse))

  pub dropped_pending : (n base : ℕ) (slots : List (Option (ℕ × B))) → pending (base + n) slots ≡ pending base (replicate n None ++ slots)
  dropped_pending zero base slots = let same : base + 0 ≡ base = omega arith in ap (λ (b : ℕ). pending b slots) same
  dropped_pending (suc n) base slots =
      let same : base + suc n ≡ base + 1 + n = omega arith in
      ap (λ (b : ℕ). pending b slots) same ∙ dropped_pending n (base + 1) slots ∙ pending_trimmed base (replicate n None ++ slots)

  -- empty slots are added before the others
  pub added_sparse : (n : ℕ) (keys : List (Option (ℕ × ℕ))) (bodies : List (Option B)) (places : List (Option ℕ)) (base count : ℕ) → n ≤ base → IsSparse keys bodies places base count
      → IsSparse keys bodies (replicate n None ++ places) (base - n) count
  added_sparse zero keys bodies places base count from sparse = let same : base ≡ base - 0 = omega arith in subst (λ (b : ℕ). IsSparse keys bodies places b count) same sparse
  added_sparse (suc n) keys bodies places base count from sparse =
      let some : 0 < base - n = omega arith in
      let same : base - n - 1 ≡ base - suc n = omega arith in
      subst (λ (b : ℕ). IsSparse keys bodies (None ∷ (replicate n None ++ places)) b count) same
      (widened_sparse keys bodies (replicate n None ++ places) (base - n) count some (added_sparse n keys bodies places base count (omega arith) sparse))

  pub added_pending : (n base : ℕ) (slots : List (Option (ℕ × B))) → n ≤ base → pending (base - n) (replicate n None ++ slots) ≡ pending base slots
  added_pending n base slots from =
      let same : base - n + n ≡ base = omega arith in
      sym (dropped_pending n (base - n) slots) ∙ ap (λ (b : ℕ). pending b slots) same
