-- Sums over lists, and what holds of each view.
use Rattle.std.proofs.Common.{◌≡◌, ◌≢◌, ℕ, zero, suc, ◌+◌, ◌<◌, ◌≤◌, List, [], ◌∷◌, ◌++◌, set, refl, sym, ap, subst, ⊎_elim, arith}
use mathlib.Core.Option.{some, some-ne-none, some-injective}
use lib.ListN.{get_elem?}
use Rattle.atomic_table.proofs.Lists.{at_set, at_snoc}
use Rattle.sim_claims.specs.Claims.{total}

module _ {A : Type 0} where
  -- the sum after a change of one element
  pub total_set : (f : A → ℕ) (l : List A) (i : ℕ) (v w : A) → get_elem? l i ≡ some v → total f (set l i w) + f v ≡ total f l + f w
  total_set f [] i v w e = absurd (some-ne-none v (sym e))
  total_set f (x ∷ xs) zero v w e = let is : f x ≡ f v = ap f (some-injective x v e) in omega arith
  total_set f (x ∷ xs) (suc i) v w e = let r = total_set f xs i v w e in omega arith

  pub total_append : (f : A → ℕ) (l m : List A) → total f (l ++ m) ≡ total f l + total f m
  total_append f [] m = omega arith
  total_append f (x ∷ xs) m = let r = total_append f xs m in omega arith

  pub total_at : (f : A → ℕ) (l : List A) (i : ℕ) (v : A) → get_elem? l i ≡ some v → f v ≤ total f l
  total_at f [] i v e = absurd (some-ne-none v (sym e))
  total_at f (x ∷ xs) zero v e = let is : f x ≡ f v = ap f (some-injective x v e) in omega arith
  total_at f (x ∷ xs) (suc i) v e = let r = total_at f xs i v e in omega arith

  -- two elements at two places
  pub total_two : (f : A → ℕ) (l : List A) (i j : ℕ) (v w : A) → j ≢ i → get_elem? l i ≡ some v → get_elem? l j ≡ some w → f v + f w ≤ total f l
  total_two f [] i j v w apart e d = absurd (some-ne-none v (sym e))
  total_two f (x ∷ xs) zero zero v w apart e d = absurd (apart refl)
  total_two f (x ∷ xs) zero (suc j) v w apart e d = let is : f x ≡ f v = ap f (some-injective x v e) in let r = total_at f xs j w d in omega arith
  total_two f (x ∷ xs) (suc i) zero v w apart e d = let is : f x ≡ f w = ap f (some-injective x w d) in let r = total_at f xs i v e in omega arith
  total_two f (x ∷ xs) (suc i) (suc j) v w apart e d = let r = total_two f xs i j v w (λ (same : j ≡ i). apart (ap suc same)) e d in omega arith

  -- what holds of each view, after a change of one
  pub held_set : (P : A → Type 0) (views : List A) (i : ℕ) (w : A) → ((j : ℕ) (u : A) → j ≢ i → get_elem? views j ≡ some u → P u) → P w → (j : ℕ) (u : A) → get_elem? (set views i w) j ≡ some u → P u
  held_set P views i w rest mine j u e =
      ⊎_elim
      (λ (x : (j ≡ i) × (w ≡ u)). subst P x.1 mine)
      (λ (x : (j ≢ i) × (get_elem? views j ≡ some u)). rest j u x.0 x.1)
      (at_set views i j w u e)

  pub held_more : (P : A → Type 0) (views : List A) (w : A) → ((j : ℕ) (u : A) → get_elem? views j ≡ some u → P u) → P w → (j : ℕ) (u : A) → get_elem? (views ++ w ∷ []) j ≡ some u → P u
  held_more P views w rest mine j u e = ⊎_elim (λ was. rest j u was) (λ (same : w ≡ u). subst P same mine) (at_snoc views w u j e)

  -- a number that is at most another, and once below it
  pub total_least : (f g : A → ℕ) (l : List A) → ((i : ℕ) (v : A) → get_elem? l i ≡ some v → f v ≤ g v) → total f l ≤ total g l
  total_least f g [] each = omega arith
  total_least f g (x ∷ xs) each = let a = each 0 x refl in let r = total_least f g xs (λ i v e. each (suc i) v e) in omega arith

  pub total_less : (f g : A → ℕ) (l : List A) (i : ℕ) (v : A) → get_elem? l i ≡ some v → f v < g v → ((j : ℕ) (u : A) → get_elem? l j ≡ some u → f u ≤ g u) → total f l < total g l
  total_less f g [] i v at less each = absurd (some-ne-none v (sym at))
  total_less f g (x ∷ xs) zero v at less each = let is : f x ≡ f v = ap f (some-injective x v at) in let is' : g x ≡ g v = ap g (some-injective x v at) in let r = total_least f g xs (λ j u e. each (suc j) u e) in omega arith
  total_less f g (x ∷ xs) (suc i) v at less each = let a = each 0 x refl in let r = total_less f g xs i v at less (λ j u e. each (suc j) u e) in omega arith
