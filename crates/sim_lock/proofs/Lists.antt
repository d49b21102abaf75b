-- Sums over lists, what holds of each element, and beginnings.
use Rattle.std.proofs.Common.{◌≡◌, ◌≢◌, ℕ, zero, suc, ◌+◌, ◌≤◌, List, [], ◌∷◌, ◌++◌, set, refl, sym, ap, subst, ⊎_elim, arith}
use mathlib.Core.Option.{some, some-ne-none, some-injective}
use lib.ListN.{get_elem?}
use Rattle.atomic_table.proofs.Lists.{at_set, at_snoc}
use Rattle.sim_lock.specs.Rule.{total, Each}

module _ {A : Type 0} where
  -- the sum after a change of one element
  pub total_set : (f : A → ℕ) (l : List A) (i : ℕ) (v w : A) → get_elem? l i ≡ some v → total f (set l i w) + f v ≡ total f l + f w
  total_set f [] i v w e = absurd (some-ne-none v (sym e))
  total_set f (x ∷ xs) zero v w e = let is : f x ≡ f v = ap f (some-injective x v e) in omega arith
  total_set f (x ∷ xs) (suc i) v w e = let r = total_set f xs i v w e in omega arith

  pub total_append : (f : A → ℕ) (l m : List A) → total f (l ++ m) ≡ total f l + total f m
  total_append f [] m = omega arith
  total_append f (x ∷ xs) m = let r = total_append f xs m in omega arith

  pub total_at : (f : A → ℕ) (l : List A) (i : ℕ) (v : A) → get_elem? l i ≡ some v → f v ≤ total f l
  total_at f [] i v e = absurd (some-ne-none v (sym e))
  total_at f (x ∷ xs) zero v e = let is : f x ≡ f v = ap f (some-injective x v e) in omega arith
  total_at f (x ∷ xs) (suc i) v e = let r = total_at f xs i v e in omega arith

  -- two elements at two places
  pub total_two : (f : A → ℕ) (l : List A) (i j : ℕ) (v w : A) → j ≢ i → get_elem? l i ≡ some v → get_elem? l j ≡ some w → f v + f w ≤ total f l
  total_two f [] i j v w apart e d = absurd (some-ne-none v (sym e))
  total_two f (x ∷ xs) zero zero v w apart e d = absurd (apart refl)
  total_two f (x ∷ xs) zero (suc j) v w apart e d = let is : f x ≡ f v = ap f (some-injective x v e) in let r = total_at f xs j w d in omega arith
  total_two f (x ∷ xs) (suc i) zero v w apart e d = let is : f x ≡ f w = ap f (some-injective x w d) in let r = total_at f xs i v e in omega arith
  total_two f (x ∷ xs) (suc i) (suc j) v w apart e d = let r = total_two f xs i j v w (λ (same : j ≡ i). apart (ap suc same)) e d in omega arith

  pub each_map : (P Q : A → Type 0) (l : List A) → ((x : A) → P x → Q x) → Each P l → Each Q l
  each_map P Q [] go h = tt
  each_map P Q (x ∷ xs) go h = (go x h.0, each_map P Q xs go h.1)

  pub each_append : (P : A → Type 0) (l m : List A) → Each P l → Each P m → Each P (l ++ m)
  each_append P [] m h k = k
  each_append P (x ∷ xs) m h k = (h.0, each_append P xs m h.1 k)

  -- what holds of each view, after a change of one
  pub held_set : (P : A → Type 0) (views : List A) (i : ℕ) (w : A) → ((j : ℕ) (u : A) → j ≢ i → get_elem? views j ≡ some u → P u) → P w → (j : ℕ) (u : A) → get_elem? (set views i w) j ≡ some u → P u
  held_set P views i w rest mine j u e =
      ⊎_elim
      (λ (x : (j ≡ i) × (w ≡ u)). subst P x.1 mine)
      (λ (x : (j ≢ i) × (get_elem? views j ≡ some u)). rest j u x.0 x.1)
      (at_set views i j w u e)

  pub held_more : (P : A → Type 0) (views : List A) (w : A) → ((j : ℕ) (u : A) → get_elem? views j ≡ some u → P u) → P w → (j : ℕ) (u : A) → get_elem? (views ++ w ∷ []) j ≡ some u → P u
  held_more P views w rest mine j u e = ⊎_elim (λ was. rest j u was) (λ (same : w ≡ u). subst P same mine) (at_snoc views w u j e)
