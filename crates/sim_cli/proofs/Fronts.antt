-- The front of a list grows by its next element.
use Rattle.std.proofs.Common.{◌≡◌, ◌∙◌, refl, ap, ℕ, zero, suc, ◌+◌, List, [], ◌∷◌, ◌++◌, take, Some, None, slice_get, add-one}

take_suc : {A : Type 0} (xs : List A) (k : ℕ) (x : A) → slice_get xs k ≡ Some x → take (suc k) xs ≡ take k xs ++ x ∷ []
take_suc [] k x h = absurd (cc)
take_suc (y ∷ ys) zero x h = let same : y ≡ x = cc in ap (λ z. z ∷ []) same
take_suc (y ∷ ys) (suc k) x h = ap (λ zs. y ∷ zs) (take_suc ys k x h)

take_past : {A : Type 0} (xs : List A) (k : ℕ) → slice_get xs k ≡ None → take (suc k) xs ≡ take k xs
take_past [] zero h = refl
take_past [] (suc k) h = refl
take_past (y ∷ ys) zero h = absurd (cc)
take_past (y ∷ ys) (suc k) h = ap (λ zs. y ∷ zs) (take_past ys k h)

pub front_next : {A : Type 0} (xs : List A) (k : ℕ) (x : A) → slice_get xs k ≡ Some x → take (k + 1) xs ≡ take k xs ++ x ∷ []
front_next xs k x h = ap (λ n. take n xs) (add-one k) ∙ take_suc xs k x h

pub front_past : {A : Type 0} (xs : List A) (k : ℕ) → slice_get xs k ≡ None → take (k + 1) xs ≡ take k xs
front_past xs k h = ap (λ n. take n xs) (add-one k) ∙ take_past xs k h
