-- What the least number that passes tells of the others.
use Rattle.std.proofs.Common.{◌≡◌, ℕ, zero, suc, ◌+◌, ◌-◌, ◌<◌, ◌≤◌, Bool, true, false, Option, Some, None, refl, sym, ap, ◌∙◌, arith}
use mathlib.Core.Logic.{dite}
use native.Mathlib.Decide.{ℕ_discrete}
use Rattle.sim_node.specs.Numbers.{first_passing, least}

-- it is within the range and passes, and none before it passes
pub record IsLeast (test : ℕ → Bool) (lo hi i : ℕ) : Type 0 where
  pub from : lo ≤ i
  pub to : i ≤ hi
  pub passes : test i ≡ true
  pub before : (j : ℕ) → lo ≤ j → j < i → test j ≡ false

record IsFirst (test : ℕ → Bool) (k n i : ℕ) : Type 0 where
  from : k ≤ i
  to : i < k + n
  passes : test i ≡ true
  before : (j : ℕ) → k ≤ j → j < i → test j ≡ false

first_is : (test : ℕ → Bool) (k n i : ℕ) → first_passing test k n ≡ Some i → IsFirst test k n i
first_is test k zero i e = absurd cc
first_is test k (suc n) i e = go (test k) refl (λ f. first_is test (k + 1) n i f) e
  where
    go : (b : Bool) → test k ≡ b → (first_passing test (k + 1) n ≡ Some i → IsFirst test (k + 1) n i) → (elim b [ true ↦ Some k | false ↦ first_passing test (k + 1) n ]) ≡ Some i
        → IsFirst test k (suc n) i
    go true passes later e =
        let same : k ≡ i = cc in
        record { from = omega arith; to = omega arith; passes = ap test (sym same) ∙ passes; before = λ j a b. absurd (omega arith) }
    go false fails later e =
        let h = later e in
        let a = h.from in
        let b = h.to in record {
          from = omega (arith, a);
          to = omega (arith, b);
          passes = h.passes;
          before = λ j x y. dite (ℕ_discrete j k) (λ is. ap test is ∙ fails) (λ ne. h.before j (omega arith) y);
        }

none_go : (test : ℕ → Bool) (k n j : ℕ) (t : Bool) → test k ≡ t → (first_passing test (k + 1) n ≡ None → k + 1 ≤ j → test j ≡ false) → k ≤ j
    → ◌≡◌ {A = Option ℕ} (elim t [ true ↦ Some k | false ↦ first_passing test (k + 1) n ]) None → test j ≡ false
none_go test k n j true passes later a f = absurd cc
none_go test k n j false fails later a f = dite (ℕ_discrete j k) (λ is. ap test is ∙ fails) (λ ne. later f (omega arith))

none_first : (test : ℕ → Bool) (k n : ℕ) → first_passing test k n ≡ None → (j : ℕ) → k ≤ j → j < k + n → test j ≡ false
none_first test k zero e j a b = absurd (omega arith)
none_first test k (suc n) e j a b = none_go test k n j (test k) refl (λ f c. none_first test (k + 1) n f j c (omega arith)) a e

pub least_tells : (test : ℕ → Bool) (lo hi i : ℕ) → least test lo hi ≡ Some i → IsLeast test lo hi i
least_tells test lo hi i e =
    let h = first_is test lo (hi + 1 - lo) i e in
    let a = h.from in
    let b = h.to in
    record { from = a; to = omega (arith, a, b); passes = h.passes; before = h.before }

pub none_tells : (test : ℕ → Bool) (lo hi : ℕ) → least test lo hi ≡ None → (j : ℕ) → lo ≤ j → j ≤ hi → test j ≡ false
none_tells test lo hi e j a b = none_first test lo (hi + 1 - lo) e j a (omega arith)
