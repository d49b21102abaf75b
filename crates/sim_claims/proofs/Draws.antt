-- Each step of the claim table keeps its rule.
use Rattle.std.proofs.Common.{◌≡◌, ◌≢◌, ℕ, zero, suc, ◌+◌, ◌-◌, ◌%◌, ◌<◌, ◌≤◌, Bool, cond, List, [], ◌∷◌, ◌++◌, length, set, refl, sym, ap, ◌∙◌, ⊎_elim, arith, eq-eqb, ne_eqb, leb, lt-ltb, le-ltb, le-leb, length-set, length-append, get_or-set_same}
use Rattle.std.proofs.lemmas.Bool.{lt-leb}
use Rattle.std.specs.Prelude.{◌==◌, slice_index, slice_set}
use mathlib.Core.Logic.{dite}
use mathlib.Core.Option.{some, none, some-ne-none, some-injective}
use native.Mathlib.Decide.{ℕ_discrete, dec_le}
use lib.ListN.{get_elem?}
use Rattle.atomic_table.specs.Table.{State, Me, Step, step, keeps, Allows, Splits, Joins, Final, Seen}
use Rattle.atomic_table.proofs.Lists.{at_set}
use Rattle.sim_claims.specs.declared.hand.Hand.{Hand}
use Rattle.sim_claims.specs.Claims.{hand, total, times, past, once_below, Given, Draws}
use Rattle.sim_claims.proofs.Lists.{total_set, total_append, total_at, total_less, held_set, held_more}

-- what is below the next number
below_more : (k x : ℕ) → once_below k x + cond (x == k) 1 0 ≡ once_below k (x + 1)
below_more k x = dite (dec_le x k)
    (λ le. dite (ℕ_discrete x k)
    (λ is.
    let a : once_below k x ≡ 0 = ap (λ (t : Bool). cond t 1 0) (le-ltb k x le) in
    let b : cond {A = ℕ} (x == k) 1 0 ≡ 1 = ap (λ (t : Bool). cond t 1 0) (eq-eqb x k is) in
    let c : once_below k (x + 1) ≡ 1 = ap (λ (t : Bool). cond t 1 0) (lt-ltb k (x + 1) (omega arith)) in
    omega arith)
    (λ ne.
    let a : once_below k x ≡ 0 = ap (λ (t : Bool). cond t 1 0) (le-ltb k x le) in
    let b : cond {A = ℕ} (x == k) 1 0 ≡ 0 = ap (λ (t : Bool). cond t 1 0) (ne_eqb x k ne) in
    let c : once_below k (x + 1) ≡ 0 = ap (λ (t : Bool). cond t 1 0) (le-ltb k (x + 1) (omega arith)) in
    omega arith))
    (λ not_le.
    let a : once_below k x ≡ 1 = ap (λ (t : Bool). cond t 1 0) (lt-ltb k x (omega arith)) in
    let b : cond {A = ℕ} (x == k) 1 0 ≡ 0 = ap (λ (t : Bool). cond t 1 0) (ne_eqb x k (λ is. absurd (omega arith))) in
    let c : once_below k (x + 1) ≡ 1 = ap (λ (t : Bool). cond t 1 0) (lt-ltb k (x + 1) (omega arith)) in
    omega arith)

pub times_push : (k x : ℕ) (xs : List ℕ) → times k (xs ++ x ∷ []) ≡ times k xs + cond (x == k) 1 0
times_push k x xs = let a = total_append (λ y. cond (y == k) 1 0) xs (x ∷ []) in omega arith

pub past_push : (n x : ℕ) (xs : List ℕ) → past n (xs ++ x ∷ []) ≡ past n xs + cond (leb n x) 1 0
past_push n x xs = let a = total_append (λ y. cond (leb n y) 1 0) xs (x ∷ []) in omega arith

module _ (pieces workers : ℕ) where
  abbrev R : State (Unit {0}) Hand → Type 0
  R s = Given pieces workers s

  abbrev no_step : Step (Unit {0})
  no_step = step 0 0 0 0 none

  pub draws : (slots id : ℕ) (m : Me (Unit {0}) Hand) → past pieces m.0.drawn < m.0.parts → Allows R slots id m 0 (λ n. (n + 1) % 18446744073709551616) (Draws no_step m)
  draws slots id m turn s h wide at _ =
      let x : ℕ = slice_index s.words 0 in
      let v : Hand = m.0 in
      let w : Hand = hand v.parts (v.drawn ++ x ∷ []) in
      let less = total_less (λ (u : Hand). past pieces u.drawn) (λ (u : Hand). u.parts) s.views id v at turn h.few in
      let known = h.parts in
      let room = h.room in
      let small = h.small in
      let z : ℕ = (x + 1) % 18446744073709551616 in
      let fits : z ≡ x + 1 = omega arith in
      let now : slice_index (slice_set s.words 0 z) 0 ≡ x + 1 = get_or-set_same s.words 0 z 0 (let l = h.word in omega arith) ∙ fits in
      let word' : ℕ = slice_index (slice_set s.words 0 z) 0 in (
        w,
        keeps,
        tt,
        record {
          room = h.room;
          word = length-set s.words 0 z ∙ h.word;
          parts = let e = total_set (λ (u : Hand). u.parts) s.views id v w at in omega arith;
          numbers = λ k.
              let e = total_set (λ (u : Hand). times k u.drawn) s.views id v w at in
              let p = times_push k x v.drawn in
              let n = h.numbers k in
              let b = below_more k x in
              let t : total (λ (u : Hand). times k u.drawn) (set s.views id w) ≡ once_below k (x + 1) = omega arith in
              t ∙ ap (once_below k) (sym now);
          count =
              let e = total_set (λ (u : Hand). length u.drawn) s.views id v w at in
              let l = length-append v.drawn (x ∷ []) in
              let c = h.count in
              omega arith;
          small =
              let e = total_set (λ (u : Hand). past pieces u.drawn) s.views id v w at in
              let p = past_push pieces x v.drawn in
              dite (dec_le pieces x)
              (λ le. let one : cond {A = ℕ} (leb pieces x) 1 0 ≡ 1 = ap (λ (t : Bool). cond t 1 0) (le-leb pieces x le) in omega arith)
              (λ gt. omega arith);
          few = held_set (λ (u : Hand). past pieces u.drawn ≤ u.parts) s.views id w (λ j u _ e. h.few j u e)
              (let p = past_push pieces x v.drawn in
              dite (dec_le pieces x)
              (λ le. let one : cond {A = ℕ} (leb pieces x) 1 0 ≡ 1 = ap (λ (t : Bool). cond t 1 0) (le-leb pieces x le) in omega arith)
              (λ gt. let none_more : cond {A = ℕ} (leb pieces x) 1 0 ≡ 0 = ap (λ (t : Bool). cond t 1 0) (lt-leb pieces x (omega arith)) in omega arith));
          idle = held_set (λ (u : Hand). u.parts ≡ 0 → u.drawn ≡ []) s.views id w (λ j u _ e. h.idle j u e) (λ zero_parts. absurd (omega arith));
        },
        (refl, let l = total_at (λ (u : Hand). length u.drawn) s.views id v at in let c = h.count in omega arith),
      )

  pub parts_off : (id : ℕ) (v : Hand) → 1 < v.parts → past pieces v.drawn ≤ v.parts - 1 → Splits R id v (hand (v.parts - 1) v.drawn) (hand 1 [])
  parts_off id v some_parts few s h at =
      let w : Hand = hand (v.parts - 1) v.drawn in
      let one : Hand = hand 1 [] in
      let sum : (f : Hand → ℕ) → total f (set s.views id w ++ one ∷ []) + f v ≡ total f s.views + f w + f one =
      (λ f. let a = total_append f (set s.views id w) (one ∷ []) in let e = total_set f s.views id v w at in omega arith) in record {
        room = h.room;
        word = h.word;
        parts = let e = sum (λ u. u.parts) in let p = h.parts in omega arith;
        numbers = λ k. let e = sum (λ u. times k u.drawn) in let n = h.numbers k in omega arith;
        count = let e = sum (λ u. length u.drawn) in let c = h.count in omega arith;
        small = let e = sum (λ u. past pieces u.drawn) in let c = h.small in omega arith;
        few = held_more (λ (u : Hand). past pieces u.drawn ≤ u.parts) (set s.views id w) one (held_set (λ (u : Hand). past pieces u.drawn ≤ u.parts) s.views id w (λ j u _ e. h.few j u e) few) (omega arith);
        idle = held_more (λ (u : Hand). u.parts ≡ 0 → u.drawn ≡ []) (set s.views id w) one (held_set (λ (u : Hand). u.parts ≡ 0 → u.drawn ≡ []) s.views id w (λ j u _ e. h.idle j u e) (λ zero_parts. absurd (omega arith))) (λ zero_parts. refl);
      }

  was_there : (views : List Hand) (id other : ℕ) (v w : Hand) → ¬ (other ≡ id) → get_elem? (set views id v) other ≡ some w → get_elem? views other ≡ some w
  was_there views id other v w apart there = ⊎_elim (λ (t : (other ≡ id) × (v ≡ w)). absurd (apart t.0)) (λ (t : (other ≢ id) × (get_elem? views other ≡ some w)). t.1) (at_set views id other v w there)

  nil_of : (xs ys : List ℕ) → xs ≡ [] → ys ≡ [] → xs ++ ys ≡ []
  nil_of xs ys a b = ap (λ l. l ++ ys) a ∙ b

  pub folds : (id : ℕ) (v : Hand) (other : ℕ) (w : Hand) → Joins R id v other w (hand (v.parts + w.parts) (v.drawn ++ w.drawn)) (hand 0 [])
  folds id v other w s h at apart there =
      let both : Hand = hand (v.parts + w.parts) (v.drawn ++ w.drawn) in
      let spent : Hand = hand 0 [] in
      let was = was_there s.views id other both w apart there in
      let sum : (f : Hand → ℕ) → total f (set (set s.views id both) other spent) + f v + f w ≡ total f s.views + f both + f spent =
      (λ f. let e = total_set f s.views id v both at in let d = total_set f (set s.views id both) other w spent there in omega arith) in record {
        room = h.room;
        word = h.word;
        parts = let e = sum (λ u. u.parts) in let p = h.parts in omega arith;
        numbers = λ k. let e = sum (λ u. times k u.drawn) in let a = total_append (λ y. cond (y == k) 1 0) v.drawn w.drawn in let n = h.numbers k in omega arith;
        count = let e = sum (λ u. length u.drawn) in let a = length-append v.drawn w.drawn in let c = h.count in omega arith;
        small = let e = sum (λ u. past pieces u.drawn) in let a = total_append (λ y. cond (leb pieces y) 1 0) v.drawn w.drawn in let c = h.small in omega arith;
        few = held_set (λ (u : Hand). past pieces u.drawn ≤ u.parts) (set s.views id both) other spent
            (λ j u _ e. held_set (λ (u' : Hand). past pieces u'.drawn ≤ u'.parts) s.views id both (λ i y _ d. h.few i y d)
            (let a = total_append (λ y. cond (leb pieces y) 1 0) v.drawn w.drawn in let c = h.few id v at in let d = h.few other w was in omega arith) j u e)
            (omega arith);
        idle = held_set (λ (u : Hand). u.parts ≡ 0 → u.drawn ≡ []) (set s.views id both) other spent
            (λ j u _ e. held_set (λ (u' : Hand). u'.parts ≡ 0 → u'.drawn ≡ []) s.views id both (λ i y _ d. h.idle i y d)
            (λ z. nil_of v.drawn w.drawn (h.idle id v at (omega arith)) (h.idle other w was (omega arith))) j u e)
            (λ z. refl);
      }

  total_two : (f : Hand → ℕ) (views : List Hand) (id j : ℕ) (v u : Hand) → j ≢ id → get_elem? views id ≡ some v → get_elem? views j ≡ some u → f v + f u ≤ total f views
  total_two f views id j v u apart at there = two views id j apart at there
    where
      two : (l : List Hand) (a b : ℕ) → b ≢ a → get_elem? l a ≡ some v → get_elem? l b ≡ some u → f v + f u ≤ total f l
      two [] a b ne e d = absurd (some-ne-none v (sym e))
      two (x ∷ xs) zero zero ne e d = absurd (ne refl)
      two (x ∷ xs) zero (suc b) ne e d = let is : f x ≡ f v = ap f (some-injective x v e) in let r = total_at f xs b u d in omega arith
      two (x ∷ xs) (suc a) zero ne e d = let is : f x ≡ f u = ap f (some-injective x u d) in let r = total_at f xs a v e in omega arith
      two (x ∷ xs) (suc a) (suc b) ne e d = let r = two xs a b (λ same. ne (ap suc same)) e d in omega arith

  total_only : (f : Hand → ℕ) (views : List Hand) (id : ℕ) (v : Hand) → get_elem? views id ≡ some v → ((j : ℕ) (u : Hand) → j ≢ id → get_elem? views j ≡ some u → f u ≡ 0) → total f views ≡ f v
  total_only f [] id v at rest = absurd (some-ne-none v (sym at))
  total_only f (x ∷ xs) zero v at rest = let is : f x ≡ f v = ap f (some-injective x v at) in let z = nothing xs (λ j u e. rest (suc j) u (λ no. absurd (omega arith)) e) in omega arith
    where
      nothing : (l : List Hand) → ((j : ℕ) (u : Hand) → get_elem? l j ≡ some u → f u ≡ 0) → total f l ≡ 0
      nothing [] rest' = refl
      nothing (y ∷ ys) rest' = let a = rest' 0 y refl in let b = nothing ys (λ j u e. rest' (suc j) u e) in omega arith
  total_only f (x ∷ xs) (suc id) v at rest = let a = rest 0 x (λ no. absurd (omega arith)) refl in let b = total_only f xs id v at (λ j u apart e. rest (suc j) u (λ same. apart (omega arith)) e) in omega arith

  -- who has every part knows all numbers
  pub knows_all : (id : ℕ) (v : Hand) (words : List ℕ) (slots : List (Unit {0})) → Final (Seen R id v) words slots → v.parts ≡ workers → (n : ℕ) × ((x : ℕ) → times x v.drawn ≡ once_below x n)
  knows_all id v words slots f all =
      let s = f.0 in
      let h = f.1.0 in
      let at = f.1.1 in
      let idle : (j : ℕ) (u : Hand) → j ≢ id → get_elem? s.views j ≡ some u → u.drawn ≡ [] =
      (λ j u apart e. h.idle j u e (let two = total_two (λ (y : Hand). y.parts) s.views id j v u apart at e in let p = h.parts in omega arith)) in (
        slice_index s.words 0,
        λ x. sym (total_only (λ (u : Hand). times x u.drawn) s.views id v at (λ j u apart e. ap (times x) (idle j u apart e))) ∙ h.numbers x,
      )
