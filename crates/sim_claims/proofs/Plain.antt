-- The plain answer, by a walk over the pieces in order.
use Rattle.std.proofs.Common.{◌≡◌, ℕ, zero, suc, ◌+◌, ◌<◌, ◌≤◌, Option, Some, None, refl, sym, ap, ◌∙◌, arith}
use Rattle.std.specs.Prelude.{MatchOption, Result, Ok, Err, IfOk}
use mathlib.Core.Logic.{dite}
use native.Mathlib.Decide.{ℕ_discrete}
use Rattle.sim_claims.specs.Best.{at_piece, or_else, first_from, IsFirst}

module _ (f : ℕ → Option ℕ) (n : ℕ) where
  -- the least of the pieces from this one on
  abbrev From : ℕ → Option (ℕ × ℕ) → Type 0
  From from q = MatchOption q ((x : ℕ) → from ≤ x → x < n → f x ≡ None) (λ p. (from ≤ p.0) × (p.0 < n) × (f p.0 ≡ Some p.1) × ((x : ℕ) → from ≤ x → x < p.0 → f x ≡ None))

  start : (q : Option (ℕ × ℕ)) → IsFirst f n q → From 0 q
  start None k = λ x _ lt. k x lt
  start (Some p) k = (omega arith, k.0, k.1, λ x _ lt. k.2 x lt)

  walk : (from k : ℕ) (q : Option (ℕ × ℕ)) → from + k ≡ n → From from q → first_from f from k ≡ q
  walk from zero None e h = refl
  walk from zero (Some p) e h = let a = h.0 in let b = h.1 in absurd (omega arith)
  walk from (suc k) None e h =
      let here : f from ≡ None = h from (omega arith) (omega arith) in
      ap (λ (o : Option ℕ). or_else (at_piece from o) (first_from f (suc from) k)) here ∙ walk (suc from) k None (omega arith) (λ x le lt. h x (omega arith) lt)
  walk from (suc k) (Some p) e h = dite (ℕ_discrete from p.0)
      (λ is.
      let here : f from ≡ Some p.1 = ap f is ∙ h.2 in
      ap (λ (o : Option ℕ). or_else (at_piece from o) (first_from f (suc from) k)) here ∙ ap (λ (m : ℕ). Some (m, p.1)) is)
      (λ ne.
      let a = h.0 in
      let here : f from ≡ None = h.3 from (omega arith) (omega arith) in
      ap (λ (o : Option ℕ). or_else (at_piece from o) (first_from f (suc from) k)) here ∙ walk (suc from) k (Some p) (omega arith) (omega arith, h.1, h.2, λ x le lt. h.3 x (omega arith) lt))

  pub first_is_plain : (r : Option (ℕ × ℕ)) → IsFirst f n r → r ≡ first_from f 0 n
  first_is_plain r h = sym (walk 0 n r (omega arith) (start r h))

pub ok_plain : {F : Type 0} (f : ℕ → Option ℕ) (n : ℕ) (r : Result (Option (ℕ × ℕ)) F) → IfOk r (λ b. IsFirst f n b) → IfOk r (λ b. b ≡ first_from f 0 n)
ok_plain f n (Ok b) h = first_is_plain f n b h
ok_plain f n (Err e) h = tt
