-- The rule as the table opens, and what it says as the table closes.
use Rattle.std.proofs.Common.{◌≡◌, ◌≢◌, ℕ, zero, suc, ◌+◌, ◌-◌, ◌<◌, ◌≤◌, false, true≢false, cond, List, [], ◌∷◌, length, Option, Some, refl, sym, ap, ◌∙◌, subst, arith, eq-eqb, ne_eqb}
use Rattle.std.specs.Prelude.{slice_index}
use mathlib.Core.Logic.{dite}
use mathlib.Core.Option.{some, some-ne-none, some-injective}
use native.Mathlib.Decide.{ℕ_discrete, dec_le}
use lib.ListN.{get_elem?}
use Rattle.atomic_table.specs.Table.{State, opening}
use Rattle.sim_lock.specs.declared.rule.Part.{Part}
use Rattle.sim_lock.specs.Entries.{of_session}
use Rattle.sim_lock.specs.Rule.{total, Each, part, fresh, sits, has, Fits, Keeps, first_of, rest_of}
use Rattle.sim_lock.proofs.Lists.{total_two}

module _ {C E : Type 0} (whose : E → ℕ) where
  fresh_fits : (c : C) (word from count : ℕ) → Each (Fits whose c [] word) (fresh {E = E} c from count)
  fresh_fits c word from zero = tt
  fresh_fits c word from (suc k) = ((refl, refl, ([], refl), λ no. absurd (true≢false (sym no))), fresh_fits c word (suc from) k)

module _ {C : Type 0} (E : Type 0) where
  fresh_long : (c : C) (from count : ℕ) → length (fresh {E = E} c from count) ≡ count
  fresh_long c from zero = refl
  fresh_long c from (suc k) = ap suc (fresh_long c (suc from) k)

  sits_yes : (k : ℕ) (p : Part C E) → p.session ≡ k → sits k p ≡ 1
  sits_yes k p is = ap (λ b. cond b 1 0) (eq-eqb p.session k is)

  sits_no : (k : ℕ) (p : Part C E) → p.session ≢ k → sits k p ≡ 0
  sits_no k p is = ap (λ b. cond b 1 0) (ne_eqb p.session k is)

  fresh_before : (c : C) (k from count : ℕ) → k < from → total (sits k) (fresh {E = E} c from count) ≡ 0
  fresh_before c k from zero lt = refl
  fresh_before c k from (suc n) lt = let z = sits_no k (part from c [] [] false) (λ is. absurd (omega arith)) in let r = fresh_before c k (suc from) n (omega arith) in omega arith

  fresh_past : (c : C) (k from count : ℕ) → from + count ≤ k → total (sits k) (fresh {E = E} c from count) ≡ 0
  fresh_past c k from zero le = refl
  fresh_past c k from (suc n) le = let z = sits_no k (part from c [] [] false) (λ is. absurd (omega arith)) in let r = fresh_past c k (suc from) n (omega arith) in omega arith

  fresh_here : (c : C) (k from count : ℕ) → from ≤ k → k < from + count → total (sits k) (fresh {E = E} c from count) ≡ 1
  fresh_here c k from zero le lt = absurd (omega arith)
  fresh_here c k from (suc n) le lt = dite (ℕ_discrete from k)
      (λ is. let z = sits_yes k (part from c [] [] false) is in let r = fresh_before c k (suc from) n (omega arith) in omega arith)
      (λ apart. let z = sits_no k (part from c [] [] false) apart in let r = fresh_here c k (suc from) n (omega arith) (omega arith) in omega arith)

module _ {C E : Type 0} where
  -- a cut takes the next session
  pub fresh_rest : (c : C) (k n : ℕ) → k < n → rest_of (fresh {E = E} c k (n - k)) ≡ fresh {E = E} c (k + 1) (n - (k + 1))
  fresh_rest c k n lt =
      let e : n - k ≡ suc (n - (k + 1)) = omega arith in
      let d : suc k ≡ k + 1 = omega arith in
      ap (λ (j : ℕ). rest_of (fresh {E = E} c k j)) e ∙ ap (λ (j : ℕ). fresh {E = E} c j (n - (k + 1))) d

  pub fresh_first : (c : C) (k n : ℕ) → k < n → first_of (fresh {E = E} c k (n - k)) ≡ part k c [] [] false ∷ []
  fresh_first c k n lt =
      let e : n - k ≡ suc (n - (k + 1)) = omega arith in
      ap (λ (j : ℕ). first_of (fresh {E = E} c k j)) e

module _ {B C E : Type 0} (whose : E → ℕ) (scenario : B → C) (entries : B → List E) (c : C) (n : ℕ) where
  abbrev V : Type 0
  V = List (Part C E)

  abbrev R : State (Option B) V → Type 0
  R s = Keeps whose scenario entries c n s

  pub opens : (b : B) → scenario b ≡ c → entries b ≡ [] → R (opening (0 ∷ []) (Some b ∷ []) (fresh {E = E} c 0 n))
  opens b like empty = record {
    log = [];
    word = refl;
    home = λ _. (b, refl, like, empty);
    out = λ away. absurd (away refl);
    fits = one;
    one = λ k lt. let e = fresh_here E c k 0 n (omega arith) (omega arith) in omega arith;
    others = λ k le. (let e = fresh_past E c k 0 n (omega arith) in omega arith, refl);
    all = let e = fresh_long E c 0 n in omega arith;
  }
    where
      one : (id : ℕ) (v : V) → get_elem? (fresh {E = E} c 0 n ∷ []) id ≡ some v → Each (Fits whose c [] 0) v
      one zero v e = subst (Each (Fits whose c [] 0)) (some-injective (fresh {E = E} c 0 n) v e) (fresh_fits whose c 0 0 n)
      one (suc id) v e = absurd (some-ne-none v (sym e))

  pub opens_at : (slots : List (Option B)) (b : B) → slots ≡ Some b ∷ [] → scenario b ≡ c → entries b ≡ [] → R (opening (0 ∷ []) slots (fresh {E = E} c 0 n))
  opens_at slots b is like empty = subst (λ (l : List (Option B)). R (opening (0 ∷ []) l (fresh {E = E} c 0 n))) (sym is) (opens b like empty)

  -- a number on the views that is 0 of each other view
  total_only : (f : V → ℕ) (views : List V) (id : ℕ) (v : V) → get_elem? views id ≡ some v → ((j : ℕ) (u : V) → j ≢ id → get_elem? views j ≡ some u → f u ≡ 0) → total f views ≡ f v
  total_only f [] id v at rest = absurd (some-ne-none v (sym at))
  total_only f (x ∷ xs) zero v at rest = let is : f x ≡ f v = ap f (some-injective x v at) in let z = nothing xs (λ j u e. rest (suc j) u (λ no. absurd (omega arith)) e) in omega arith
    where
      nothing : (l : List V) → ((j : ℕ) (u : V) → get_elem? l j ≡ some u → f u ≡ 0) → total f l ≡ 0
      nothing [] rest' = refl
      nothing (y ∷ ys) rest' = let a = rest' 0 y refl in let b = nothing ys (λ j u e. rest' (suc j) u e) in omega arith
  total_only f (x ∷ xs) (suc id) v at rest = let a = rest 0 x (λ no. absurd (omega arith)) refl in let b = total_only f xs id v at (λ j u apart e. rest (suc j) u (λ same. apart (omega arith)) e) in omega arith

  nil_of : (u : V) → length u ≡ 0 → u ≡ []
  nil_of [] e = refl
  nil_of (q ∷ qs) e = absurd (omega arith)

  -- the seat with every part: the book is at home, its history fits each part, and no other session has an entry
  pub record Whole (v : V) (s : State (Option B) V) : Type 0 where
    pub book : B
    pub home : get_elem? s.homes 0 ≡ some (some (Some book))
    pub scenario_is : scenario book ≡ c
    pub fits : Each (Fits whose c (entries book) 0) v
    pub others : (k : ℕ) → total (sits k) v ≡ 0 → of_session whose k (entries book) ≡ []

  pub closes : (s : State (Option B) V) (id : ℕ) (v : V) → R s → get_elem? s.views id ≡ some v → length v ≡ n → total has v ≡ 0 → Whole v s
  closes s id v h at long idle =
      let empty : (j : ℕ) (u : V) → j ≢ id → get_elem? s.views j ≡ some u → u ≡ [] =
      (λ j u apart e. nil_of u (let two = total_two length s.views id j v u apart at e in let a = h.all in omega arith)) in
      let only : (f : V → ℕ) → f [] ≡ 0 → total f s.views ≡ f v = (λ f z. total_only f s.views id v at (λ j u apart e. ap f (empty j u apart e) ∙ z)) in
      let free : slice_index s.words 0 ≡ 0 = dite (ℕ_discrete (slice_index s.words 0) 0) (λ y. y) (λ away. let o = h.out away in let t = only (total has) refl in absurd (omega arith)) in
      let t = h.home free in
      record {
        book = t.0;
        home = t.1;
        scenario_is = t.2;
        fits = subst (λ (x : List E × ℕ). Each (Fits whose c x.0 x.1) v) (λ i. (sym t.3 i, free i)) (h.fits id v at);
        others = λ k none_is. dite (dec_le n k)
            (λ past. ap (of_session whose k) t.3 ∙ (h.others k past).1)
            (λ below. let o = h.one k (omega arith) in let e = only (total (sits k)) refl in absurd (omega arith));
      }
