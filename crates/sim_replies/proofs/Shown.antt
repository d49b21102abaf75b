-- The values of the first events and of the next one.
use Rattle.std.proofs.Common.{◌≡◌, ◌∙◌, refl, sym, ap, ℕ, zero, suc, ◌+◌, List, [], ◌∷◌, ◌++◌, map, take, Some, None, slice_get, add-one}
use Rattle.std.proofs.lemmas.List.{map-append}

take_suc : {A : Type 0} (xs : List A) (k : ℕ) (x : A) → slice_get xs k ≡ Some x → take (suc k) xs ≡ take k xs ++ x ∷ []
take_suc [] k x h = absurd (cc)
take_suc (y ∷ ys) zero x h = let same : y ≡ x = cc in ap (λ z. z ∷ []) same
take_suc (y ∷ ys) (suc k) x h = ap (λ zs. y ∷ zs) (take_suc ys k x h)

take_past : {A : Type 0} (xs : List A) (k : ℕ) → slice_get xs k ≡ None → take (suc k) xs ≡ take k xs
take_past [] zero h = refl
take_past [] (suc k) h = refl
take_past (y ∷ ys) zero h = absurd (cc)
take_past (y ∷ ys) (suc k) h = ap (λ zs. y ∷ zs) (take_past ys k h)

module _ {A B V : Type 0} (f : A → B) (g : V → B) where
  pub next_value : (values : List V) (events : List A) (k : ℕ) (value : V) (event : A) → map g values ≡ map f (take k events) → slice_get events k ≡ Some event →
      g value ≡ f event → map g (values ++ value ∷ []) ≡ map f (take (k + 1) events)
  next_value values events k value event h is e =
      let next : take (k + 1) events ≡ take k events ++ event ∷ [] = ap (λ n. take n events) (add-one k) ∙ take_suc events k event is in
      map-append g values (value ∷ []) ∙ ap (λ vs. vs ++ g value ∷ []) h ∙ ap (λ v. map f (take k events) ++ v ∷ []) e
      ∙ sym (map-append f (take k events) (event ∷ [])) ∙ ap (map f) (sym next)

  pub no_value : (values : List V) (events : List A) (k : ℕ) → map g values ≡ map f (take k events) → slice_get events k ≡ None →
      map g values ≡ map f (take (k + 1) events)
  no_value values events k h none =
      let next : take (k + 1) events ≡ take k events = ap (λ n. take n events) (add-one k) ∙ take_past events k none in
      h ∙ ap (map f) (sym next)
