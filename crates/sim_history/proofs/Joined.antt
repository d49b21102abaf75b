-- Lemmas on items in parts of one length.
use Rattle.std.proofs.Common.{◌≡◌, ℕ, zero, suc, ◌+◌, ◌-◌, ◌*◌, ◌/◌, ◌%◌, ◌<◌, ◌≤◌, List, [], ◌∷◌, ◌++◌, length, take, drop, get_or, Some, refl, sym, ap, ◌∙◌, ⊎_elim, arith, append_assoc, length-append, length-drop, length-take}
use Rattle.std.specs.Prelude.{slice_get, nat_eq}
use Rattle.std.proofs.lemmas.Nat.{mod-mul-add}
use Rattle.std.proofs.lemmas.Bool.{cases_eq, eq-eqb, ne_eqb}
use Rattle.std.specs.List.{flat_map}
use Rattle.std.proofs.Math.Nat.{suc-mul, mul_comm, div-add-mod, mul-le-mul_right, div-mul-le_self, mod-lt, mul-add-mod_self_right, mod_self}
use Rattle.std.proofs.Math.Seq.{take-append-add, drop-append-add}
use Rattle.std.proofs.lemmas.List.{append-nil, take-append-le, drop-append-le}
use Rattle.std.proofs.lemmas.List.Concat.{flat_map-append}
use Rattle.std.proofs.lemmas.Option.{same_Some, slice_get-get_or}
use Rattle.circular_buffer.proofs.Places.{slice_get-append_left, slice_get-append_right, slice_get-drop, slice_get-take}
use Rattle.sim_history.specs.Segments.{AreFull, stretch}

pub quotient : (n k : ℕ) → n / k * k + n % k ≡ n
quotient n k = ap (λ m. m + n % k) (mul_comm (n / k) k) ∙ div-add-mod n k

pub multiple : (m n k : ℕ) → m ≤ n / k → m * k ≤ n
multiple m n k h = let a = mul-le-mul_right {m = m} {n = n / k} k h in let b = div-mul-le_self n k in omega (arith, a, b)

-- a stretch of the last part ends where it is asked to
pub stretch_last : (n k b from to : ℕ) → n * k ≤ from → from < to → to ≤ n * k + b → b ≤ k → stretch k from to ≡ to - from
stretch_last n k b from to low order high short =
    let is : n * k + (from - n * k) ≡ from = omega (arith, low) in
    let rest = mod-mul-add n k (from - n * k) (omega (arith, low, order, high, short)) in
    let same : from % k ≡ from - n * k = ap (λ (m : ℕ). m % k) (sym is) ∙ rest in
    omega (arith, same, low, order, high, short)

-- whether one more ends a part
pub ends_part : (n k b : ℕ) → b < k → nat_eq (b + 1) k ≡ nat_eq ((n * k + b + 1) % k) 0
ends_part n k b lt =
    let on : n * k + b + 1 ≡ n * k + (b + 1) = omega arith in
    let rest : (n * k + b + 1) % k ≡ (b + 1) % k = ap (λ (m : ℕ). m % k) on ∙ mul-add-mod_self_right n k (b + 1) in
    ⊎_elim
    (λ (is : b + 1 ≡ k). eq-eqb (b + 1) k is ∙ sym (eq-eqb ((n * k + b + 1) % k) 0 (rest ∙ ap (λ (m : ℕ). m % k) is ∙ mod_self k)))
    (λ (no : b + 1 ≡ k → ⊥).
    let below : b + 1 < k = omega (arith, lt, no) in
    let some : (n * k + b + 1) % k ≡ b + 1 = ap (λ (m : ℕ). m % k) on ∙ mod-mul-add n k (b + 1) below in
    ne_eqb (b + 1) k no ∙ sym (ne_eqb ((n * k + b + 1) % k) 0 (λ (z : (n * k + b + 1) % k ≡ 0). absurd (omega (arith, some, z)))))
    (cases_eq (b + 1) k)

-- how far a stretch goes
pub stretch_some : (k from to : ℕ) → 0 < k → from < to → 0 < stretch k from to
stretch_some k from to some order = omega (arith, mod-lt from some, order)

module _ {A : Type 0} where
  -- how many items a stretch has
  pub length-stretch : (k from to : ℕ) (xs ys : List A) → ys ≡ take (stretch k from to) (drop from xs) → to ≤ length xs → length ys ≡ stretch k from to
  length-stretch k from to xs ys is within =
      ap length is ∙ omega (arith, length-take (stretch k from to) (drop from xs), length-drop from xs, within)

  -- an item of a stretch
  pub at_stretch : (n from j : ℕ) (xs ys : List A) (d : A) → ys ≡ take n (drop from xs) → j < length ys → slice_get xs (from + j) ≡ Some (get_or ys j d)
  at_stretch n from j xs ys d is inside =
      let below : j < n = omega (arith, inside, ap length is, length-take n (drop from xs)) in
      sym (slice_get-drop from xs j (from + j) refl)
      ∙ sym (slice_get-take n (drop from xs) j below)
      ∙ ap (λ zs. slice_get zs j) (sym is)
      ∙ slice_get-get_or ys j d inside

module _ {X A : Type 0} (items : X → List A) where
  pub length-joined : (k : ℕ) (ss : List X) → AreFull items k ss → length (flat_map items ss) ≡ length ss * k
  length-joined k [] h = omega arith
  length-joined k (s ∷ ss) h =
      let rest = length-joined k ss h.1 in
      let both = length-append (items s) (flat_map items ss) in
      omega (arith, suc-mul (length ss) k, rest, both, h.0)

  pub length-all : (k : ℕ) (ss : List X) (last : List A) → AreFull items k ss → length (flat_map items ss ++ last) ≡ length ss * k + length last
  length-all k ss last h = omega (arith, length-append (flat_map items ss) last, length-joined k ss h)

  pub AreFull-push : (k : ℕ) (ss : List X) (s : X) → AreFull items k ss → length (items s) ≡ k → AreFull items k (ss ++ s ∷ [])
  AreFull-push k [] s h is = (is, tt)
  AreFull-push k (t ∷ ts) s h is = (h.0, AreFull-push k ts s h.1 is)

  pub AreFull-take : (k n : ℕ) (ss : List X) → AreFull items k ss → AreFull items k (take n ss)
  AreFull-take k zero ss h = tt
  AreFull-take k (suc n) [] h = tt
  AreFull-take k (suc n) (s ∷ ss) h = (h.0, AreFull-take k n ss h.1)

  pub joined-push : (ss : List X) (s : X) → flat_map items (ss ++ s ∷ []) ≡ flat_map items ss ++ items s
  joined-push ss s =
      flat_map-append items ss (s ∷ []) ∙ ap (λ xs. flat_map items ss ++ xs) (append-nil (items s))

  pub length-at : (k : ℕ) (ss : List X) (q : ℕ) (s : X) → AreFull items k ss → slice_get ss q ≡ Some s → length (items s) ≡ k
  length-at k [] q s h at = cc
  length-at k (t ∷ ts) zero s h at = ap (λ x. length (items x)) (sym (same_Some t s at)) ∙ h.0
  length-at k (t ∷ ts) (suc q) s h at = length-at k ts q s h.1 at

  -- an item of a part
  pub at_part : (k : ℕ) (ss : List X) (last : List A) (q j : ℕ) (s : X) → AreFull items k ss → slice_get ss q ≡ Some s → j < k
      → slice_get (flat_map items ss ++ last) (q * k + j) ≡ slice_get (items s) j
  at_part k [] last q j s h at below = cc
  at_part k (t ∷ ts) last zero j s h at below =
      let is : zero * k + j ≡ j = omega arith in
      let full : length (items t) ≡ k = h.0 in
      ap (slice_get ((items t ++ flat_map items ts) ++ last)) is
      ∙ ap (λ xs. slice_get xs j) (append_assoc (items t) (flat_map items ts) last)
      ∙ slice_get-append_left (items t) (flat_map items ts ++ last) j (omega arith)
      ∙ ap (λ x. slice_get (items x) j) (same_Some t s at)
  at_part k (t ∷ ts) last (suc q) j s h at below =
      let full : length (items t) ≡ k = h.0 in
      let is : suc q * k + j ≡ length (items t) + (q * k + j) = omega (arith, suc-mul q k) in
      ap (λ xs. slice_get xs (suc q * k + j)) (append_assoc (items t) (flat_map items ts) last)
      ∙ slice_get-append_right (items t) (flat_map items ts ++ last) (suc q * k + j) (q * k + j) is
      ∙ at_part k ts last q j s h.1 at below

  -- an item of the last part
  pub at_last : (k : ℕ) (ss : List X) (last : List A) (i : ℕ) → AreFull items k ss → length ss * k ≤ i
      → slice_get (flat_map items ss ++ last) i ≡ slice_get last (i - length ss * k)
  at_last k ss last i h le =
      slice_get-append_right (flat_map items ss) last i (i - length ss * k) (omega (arith, length-joined k ss h))

  -- so many items of a part, from one of them on
  pub within_part : (k : ℕ) (ss : List X) (last : List A) (q j n : ℕ) (s : X) → AreFull items k ss → slice_get ss q ≡ Some s → j + n ≤ k
      → take n (drop (q * k + j) (flat_map items ss ++ last)) ≡ take n (drop j (items s))
  within_part k [] last q j n s h at below = cc
  within_part k (t ∷ ts) last zero j n s h at below =
      let is : zero * k + j ≡ j = omega arith in
      let full : length (items t) ≡ k = h.0 in
      ap (λ m. take n (drop m ((items t ++ flat_map items ts) ++ last))) is
      ∙ ap (λ xs. take n (drop j xs)) (append_assoc (items t) (flat_map items ts) last)
      ∙ ap (take n) (drop-append-le j (items t) (flat_map items ts ++ last) (omega (arith, full, below)))
      ∙ take-append-le n (drop j (items t)) (flat_map items ts ++ last) (omega (arith, full, below, length-drop j (items t)))
      ∙ ap (λ x. take n (drop j (items x))) (same_Some t s at)
  within_part k (t ∷ ts) last (suc q) j n s h at below =
      let full : length (items t) ≡ k = h.0 in
      let is : suc q * k + j ≡ length (items t) + (q * k + j) = omega (arith, suc-mul q k) in
      ap (λ m. take n (drop m ((items t ++ flat_map items ts) ++ last))) is
      ∙ ap (λ xs. take n (drop (length (items t) + (q * k + j)) xs)) (append_assoc (items t) (flat_map items ts) last)
      ∙ ap (take n) (drop-append-add (items t) (flat_map items ts ++ last) (q * k + j))
      ∙ within_part k ts last q j n s h.1 at below

  -- the items of the last part, from one of them on
  pub within_last : (k : ℕ) (ss : List X) (last : List A) (i : ℕ) → AreFull items k ss → length ss * k ≤ i
      → drop i (flat_map items ss ++ last) ≡ drop (i - length ss * k) last
  within_last k ss last i h le =
      let is : i ≡ length (flat_map items ss) + (i - length ss * k) = omega (arith, length-joined k ss h) in
      ap (λ n. drop n (flat_map items ss ++ last)) is ∙ drop-append-add (flat_map items ss) last (i - length ss * k)

  -- the first items, up to within a part
  pub first_part : (k : ℕ) (ss : List X) (last : List A) (q j : ℕ) (s : X) → AreFull items k ss → slice_get ss q ≡ Some s → j ≤ k
      → take (q * k + j) (flat_map items ss ++ last) ≡ flat_map items (take q ss) ++ take j (items s)
  first_part k [] last q j s h at below = cc
  first_part k (t ∷ ts) last zero j s h at below =
      let is : zero * k + j ≡ j = omega arith in
      let full : length (items t) ≡ k = h.0 in
      ap (λ n. take n ((items t ++ flat_map items ts) ++ last)) is
      ∙ ap (take j) (append_assoc (items t) (flat_map items ts) last)
      ∙ take-append-le j (items t) (flat_map items ts ++ last) (omega arith)
      ∙ ap (λ x. take j (items x)) (same_Some t s at)
  first_part k (t ∷ ts) last (suc q) j s h at below =
      let full : length (items t) ≡ k = h.0 in
      let is : suc q * k + j ≡ length (items t) + (q * k + j) = omega (arith, suc-mul q k) in
      ap (λ n. take n ((items t ++ flat_map items ts) ++ last)) is
      ∙ ap (take (length (items t) + (q * k + j))) (append_assoc (items t) (flat_map items ts) last)
      ∙ take-append-add (items t) (flat_map items ts ++ last) (q * k + j)
      ∙ ap (λ xs. items t ++ xs) (first_part k ts last q j s h.1 at below)
      ∙ sym (append_assoc (items t) (flat_map items (take q ts)) (take j (items s)))

  -- the first items, up to within the last part
  pub first_last : (k : ℕ) (ss : List X) (last : List A) (i : ℕ) → AreFull items k ss → length ss * k ≤ i
      → take i (flat_map items ss ++ last) ≡ flat_map items ss ++ take (i - length ss * k) last
  first_last k ss last i h le =
      let is : i ≡ length (flat_map items ss) + (i - length ss * k) = omega (arith, length-joined k ss h) in
      ap (λ n. take n (flat_map items ss ++ last)) is ∙ take-append-add (flat_map items ss) last (i - length ss * k)

  -- the first items, by the part in which they end
  pub cut_part : (k : ℕ) (ss : List X) (last : List A) (count : ℕ) (s : X) → 0 < k → AreFull items k ss → slice_get ss (count / k) ≡ Some s
      → flat_map items (take (count / k) ss) ++ take (count % k) (items s) ≡ take count (flat_map items ss ++ last)
  cut_part k ss last count s some h at =
      let below = mod-lt count some in
      sym (first_part k ss last (count / k) (count % k) s h at (omega (arith, below)))
      ∙ ap {B = List A} (λ n. take n (flat_map items ss ++ last)) (quotient count k)
