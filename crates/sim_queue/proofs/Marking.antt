-- Marks that are set and taken away.
use Rattle.std.proofs.Common.{◌≡◌, ◌≢◌, ℕ, ◌+◌, ◌-◌, ◌*◌, ◌/◌, ◌%◌, ◌^◌, ◌<◌, ◌≤◌, List, sym, ap, ◌∙◌, arith, length, ⊎_elim, bit_and, w64}
use Rattle.std.specs.Int.{bit_at, bit_not, trailing_zeros}
use Rattle.std.specs.Int.RustNames.{bit_or}
use Rattle.std.proofs.Math.ListN.{get_or, set}
use Rattle.std.proofs.lemmas.Bool.{cases_eq, cases_lt}
use Rattle.std.proofs.lemmas.List.{get_or-set_same, get_or-set_other}
use Rattle.std.proofs.lemmas.Nat.{shr-shr, shr_le}
use Rattle.std.proofs.lemmas.Nat.Bits.{bit_at_set_same, bit_at_set_other, bit_at_clear_same, bit_at_clear_other, bit_at-trailing_zeros, bit_at_above, bit_at-zero}
use Rattle.sim_queue.specs.inside.Marks.{mark_of, IsMarked, IsUnmarked}

mark_same : (words : List ℕ) (due d v : ℕ) → due % 256 / 64 < length words → d % 256 / 64 ≡ due % 256 / 64 → mark_of (set words (due % 256 / 64) v) d ≡ bit_at v (d % 64)
mark_same words due d v within same =
    ap (λ (w : ℕ). bit_at (get_or (set words (due % 256 / 64) v) w 0) (d % 64)) same ∙ ap (λ (n : ℕ). bit_at n (d % 64)) (get_or-set_same words (due % 256 / 64) v 0 within)

mark_other : (words : List ℕ) (due d v : ℕ) → d % 256 / 64 ≢ due % 256 / 64 → mark_of (set words (due % 256 / 64) v) d ≡ mark_of words d
mark_other words due d v apart = ap (λ (n : ℕ). bit_at n (d % 64)) (get_or-set_other words (due % 256 / 64) (d % 256 / 64) v 0 apart)

pub set_here : (words : List ℕ) (due d : ℕ) → due % 256 / 64 < length words → d % 256 ≡ due % 256
    → IsMarked (set words (due % 256 / 64) (bit_or (get_or words (due % 256 / 64) 0) (1 * 2 ^ (due % 64) % 2 ^ 64))) d
set_here words due d within same =
    let bit : d % 64 ≡ due % 64 = omega (arith, same) in
    mark_same words due d _ within (ap (λ (n : ℕ). n / 64) same)
    ∙ ap (λ (n : ℕ). bit_at (bit_or (get_or words (due % 256 / 64) 0) (1 * 2 ^ (due % 64) % 2 ^ 64)) n) bit
    ∙ bit_at_set_same w64 (get_or words (due % 256 / 64) 0) (due % 64) (omega arith)

pub set_elsewhere : (words : List ℕ) (due d : ℕ) → due % 256 / 64 < length words → d % 256 ≢ due % 256
    → mark_of (set words (due % 256 / 64) (bit_or (get_or words (due % 256 / 64) 0) (1 * 2 ^ (due % 64) % 2 ^ 64))) d ≡ mark_of words d
set_elsewhere words due d within apart = ⊎_elim
    (λ (same : d % 256 / 64 ≡ due % 256 / 64).
    mark_same words due d _ within same
    ∙ bit_at_set_other w64 (get_or words (due % 256 / 64) 0) (due % 64) (omega arith) (d % 64) (λ (e : d % 64 ≡ due % 64). apart (omega (arith, same, e)))
    ∙ ap (λ (w : ℕ). bit_at (get_or words w 0) (d % 64)) (sym same))
    (λ other. mark_other words due d _ other)
    (cases_eq (d % 256 / 64) (due % 256 / 64))

pub clear_here : (words : List ℕ) (due d : ℕ) → due % 256 / 64 < length words → d % 256 ≡ due % 256
    → IsUnmarked (set words (due % 256 / 64) (bit_and (get_or words (due % 256 / 64) 0) (bit_not w64 (1 * 2 ^ (due % 64) % 2 ^ 64)))) d
clear_here words due d within same =
    let bit : d % 64 ≡ due % 64 = omega (arith, same) in
    mark_same words due d _ within (ap (λ (n : ℕ). n / 64) same)
    ∙ ap (λ (n : ℕ). bit_at (bit_and (get_or words (due % 256 / 64) 0) (bit_not w64 (1 * 2 ^ (due % 64) % 2 ^ 64))) n) bit
    ∙ bit_at_clear_same w64 (get_or words (due % 256 / 64) 0) (due % 64) (omega arith)

pub clear_elsewhere : (words : List ℕ) (due d : ℕ) → due % 256 / 64 < length words → d % 256 ≢ due % 256
    → mark_of (set words (due % 256 / 64) (bit_and (get_or words (due % 256 / 64) 0) (bit_not w64 (1 * 2 ^ (due % 64) % 2 ^ 64)))) d ≡ mark_of words d
clear_elsewhere words due d within apart = ⊎_elim
    (λ (same : d % 256 / 64 ≡ due % 256 / 64).
    mark_same words due d _ within same
    ∙ bit_at_clear_other w64 (get_or words (due % 256 / 64) 0) (due % 64) (omega arith) (d % 64) (omega arith) (λ (e : d % 64 ≡ due % 64). apart (omega (arith, same, e)))
    ∙ ap (λ (w : ℕ). bit_at (get_or words w 0) (d % 64)) (sym same))
    (λ other. mark_other words due d _ other)
    (cases_eq (d % 256 / 64) (due % 256 / 64))

-- a bit of what is left of a word
shifted : (n k i : ℕ) → bit_at (n / 2 ^ k) i ≡ bit_at n (k + i)
shifted n k i = ap (λ (m : ℕ). m % 2) (shr-shr n k i)

-- a mark of the same word is a bit of the rest
rest_mark : (words : List ℕ) (due d : ℕ) → due ≤ d → d / 64 ≡ due / 64 → mark_of words d ≡ bit_at (get_or words (due % 256 / 64) 0 / 2 ^ (due % 64)) (d - due)
rest_mark words due d from same =
    let word : d % 256 / 64 ≡ due % 256 / 64 = omega (arith, same) in
    let bit : d % 64 ≡ due % 64 + (d - due) = omega (arith, from, same) in
    ap (λ (w : ℕ). bit_at (get_or words w 0) (d % 64)) word
    ∙ ap (λ (n : ℕ). bit_at (get_or words (due % 256 / 64) 0) n) bit
    ∙ sym (shifted (get_or words (due % 256 / 64) 0) (due % 64) (d - due))

pub rest_none : (words : List ℕ) (due d : ℕ) → get_or words (due % 256 / 64) 0 / 2 ^ (due % 64) ≡ 0 → due ≤ d → d / 64 ≡ due / 64 → IsUnmarked words d
rest_none words due d none from same = rest_mark words due d from same ∙ ap (λ (n : ℕ). bit_at n (d - due)) none ∙ bit_at-zero (d - due)

-- what the lowest bit of the rest says
pub record IsNext (words : List ℕ) (due n : ℕ) : Type 0 where
  pub within : due % 64 + n < 64
  pub marked : IsMarked words (due + n)
  pub between : (d : ℕ) → due ≤ d → d < due + n → IsUnmarked words d

pub rest_next : (words : List ℕ) (due : ℕ) → get_or words (due % 256 / 64) 0 < 2 ^ 64 → (get_or words (due % 256 / 64) 0 / 2 ^ (due % 64) ≡ 0 → ⊥)
    → IsNext words due (trailing_zeros w64 (get_or words (due % 256 / 64) 0 / 2 ^ (due % 64)))
rest_next words due fits some = record {
  within = inside;
  marked =
      rest_mark words due (due + n) (omega arith) (omega (arith, inside))
      ∙ ap (λ (m : ℕ). bit_at rest m) here
      ∙ lowest.1;
  between = λ d from lt. rest_mark words due d from (omega (arith, inside, from, lt)) ∙ lowest.2 (d - due) (omega (arith, from, lt));
}
  where
    word : ℕ
    word = get_or words (due % 256 / 64) 0

    rest : ℕ
    rest = word / 2 ^ (due % 64)

    n : ℕ
    n = trailing_zeros w64 rest

    here : due + n - due ≡ n
    here = omega arith

    lowest : (n < 64) × (bit_at rest n ≡ 1) × ((i : ℕ) → i < n → bit_at rest i ≡ 0)
    lowest = bit_at-trailing_zeros w64 rest (let s = some in omega (arith, s)) (let l = shr_le word (due % 64) in omega (arith, l, fits))

    inside : due % 64 + n < 64
    inside = ⊎_elim (λ (lt : due % 64 + n < 64). lt)
        (λ (ge : 64 ≤ due % 64 + n).
        let both : 1 ≡ 0 = sym lowest.1 ∙ shifted word (due % 64) n ∙ bit_at_above word 64 (due % 64 + n) fits ge in absurd (omega (arith, both)))
        (cases_lt (due % 64 + n) 64)
