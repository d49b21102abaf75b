-- A list that is copied item after item.
use Rattle.std.proofs.Common.{◌≡◌, ℕ, ◌+◌, ◌<◌, List, [], ◌∷◌, ◌++◌, sym, ap, ◌∙◌, get_or, length, take}
use Rattle.std.proofs.lemmas.List.{take_more}

module _ {X : Type 0} where
  pub next_copied : (copies all more : List X) (i : ℕ) (copy item : X) → copies ≡ take i all → more ≡ copies ++ copy ∷ [] → copy ≡ item
      → item ≡ get_or all i item → i < length all → more ≡ take (i + 1) all
  next_copied copies all more i copy item before after same is inside =
      after ∙ ap (λ xs. xs ++ copy ∷ []) before ∙ ap (λ x. take i all ++ x ∷ []) (same ∙ is) ∙ sym (take_more all i item inside)
