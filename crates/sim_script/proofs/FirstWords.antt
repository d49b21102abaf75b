-- The words of a line, from its front.
use Rattle.std.proofs.Common.{◌≡◌, ℕ, List, [], ◌∷◌, ◌++◌, length, refl, sym, ◌∙◌, ap, false, ◌<◌, arith, filter, append-nil, take, drop, take-append-drop, ◌⊎◌, inl, inr, zero, suc}
use Rattle.std.specs.Prelude.{◌==◌}
use Rattle.std.proofs.lemmas.List.Splits.{slice_split_at, slice_split_none}
use Rattle.sim_script.specs.Words.{words, is_word, HasNoSpace}

-- a space at the front is no word
pub words-space : (rest : List ℕ) → words (32 ∷ rest) ≡ words rest
words-space rest = refl

-- a word, and then a space
pub words-word : (b : ℕ) (word rest : List ℕ) → HasNoSpace (b ∷ word) → words ((b ∷ word) ++ 32 ∷ rest) ≡ (b ∷ word) ∷ words rest
words-word b word rest h = ap (filter is_word) (slice_split_at (λ x. x == 32) (b ∷ word) 32 rest h refl)

-- a word at the end
pub words-last : (b : ℕ) (word : List ℕ) → HasNoSpace (b ∷ word) → words (b ∷ word) ≡ (b ∷ word) ∷ []
words-last b word h = ap (filter is_word) (slice_split_none (λ x. x == 32) (b ∷ word) h)

not_nil : (b : ℕ) (more : List ℕ) → b ∷ more ≡ [] → ⊥
not_nil b more e = cc

not_space : (b : ℕ) (more rest : List ℕ) → (b == 32) ≡ false → b ∷ more ≡ 32 ∷ rest → ⊥
not_space b more rest h e =
    let same : b ≡ 32 = cc in
    let yes : (32 == 32) ≡ false = rw same at h in
    cc

-- the first word, where no space stands at the front
pub first_word : (b : ℕ) (more : List ℕ) (n : ℕ) → (b == 32) ≡ false → HasNoSpace (take n (b ∷ more)) →
    ((drop n (b ∷ more) ≡ []) ⊎ ((rest : List ℕ) × (drop n (b ∷ more) ≡ 32 ∷ rest))) →
    words (b ∷ more) ≡ take n (b ∷ more) ∷ words (drop n (b ∷ more))
first_word b more zero h plain ends = elim ends [
  | inl e ↦ absurd (not_nil b more e)
  | inr e ↦ absurd (not_space b more e.0 h e.1)
]
first_word b more (suc n) h plain ends = elim ends [
  | inl e ↦
      let all : more ≡ take n more = sym (take-append-drop n more) ∙ ap (λ xs. take n more ++ xs) e ∙ append-nil (take n more) in
      ap (λ xs. words (b ∷ xs)) all ∙ words-last b (take n more) plain ∙ ap (λ xs. (b ∷ take n more) ∷ words xs) (sym e)
  | inr e ↦
      let all : more ≡ take n more ++ 32 ∷ e.0 = sym (take-append-drop n more) ∙ ap (λ xs. take n more ++ xs) e.1 in
      ap (λ xs. words (b ∷ xs)) all ∙ words-word b (take n more) e.0 plain ∙ ap (λ xs. (b ∷ take n more) ∷ words xs) (sym e.1)
]

pub first_word_of : (text front back : List ℕ) (n : ℕ) →
    ((text ≡ []) ⊎ ((b : ℕ) × (more : List ℕ) × (text ≡ b ∷ more) × ((b == 32) ≡ false))) → 0 < length text →
    HasNoSpace (take n text) → ((drop n text ≡ []) ⊎ ((rest : List ℕ) × (drop n text ≡ 32 ∷ rest))) →
    front ≡ take n text → back ≡ drop n text → words text ≡ front ∷ words back
first_word_of text front back n first some plain ends f b = elim first [
  | inl e ↦ absurd (omega (arith, ap length e))
  | inr e ↦
      let whole = first_word e.0 e.1 n e.3 (rw e.2 at plain) (rw e.2 at ends) in
      rw (f, b, e.2) whole
]
