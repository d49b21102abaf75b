-- The number that digits write, digit by digit.
use Rattle.std.proofs.Common.{◌≡◌, ℕ, ◌+◌, ◌-◌, ◌*◌, ◌^◌, ◌<◌, ◌≤◌, List, [], ◌∷◌, length, take, refl, sym, ◌∙◌, ap, cond, Bool, true, false, arith, get_or, add-one, ◌&&◌, Option, Some, None, lit<, lt_of_lt_of_le}
use Rattle.std.specs.Prelude.{nat_le}
use Rattle.std.specs.List.{list_all}
use Rattle.std.specs.Char.{is_ascii_digit}
use Rattle.std.proofs.Math.Nat.{pow-suc, pow-le-pow_right}
use Rattle.std.proofs.lemmas.List.{take_all}
use Rattle.std.proofs.lemmas.List.Sums.{fold_more}
use Rattle.std.proofs.lemmas.List.Folds.{list_all_more, list_all_at}
use Rattle.std.proofs.lemmas.Bool.Decides.{nat_tests}
use Rattle.sim_script.specs.Words.{number_from, number, is_word}

-- the digits so far
pub record Digits (word : List ℕ) (value index : ℕ) : Type 0 where
  pub is : value ≡ number_from (take index word)
  pub digits : list_all is_ascii_digit (take index word) ≡ true
  pub small : value < 10 ^ index

pub at_start : (word : List ℕ) → Digits word 0 0
at_start word = record { is = refl; digits = refl; small = lit< tt }

power : (i : ℕ) → 10 ^ (i + 1) ≡ 10 ^ i * 10
power i = rw add-one (pow-suc 10 i)

few : (i : ℕ) → i ≤ 18 → 10 ^ i ≤ 1000000000000000000
few i h = pow-le-pow_right (lit< tt) h

pub below_most : (word : List ℕ) (value index : ℕ) → Digits word value index → index ≤ 18 → value < 1000000000000000000
below_most word value index d h = omega (arith, d.small, few index h)

pub at_digit : (word : List ℕ) (value index digit : ℕ) → Digits word value index → index < length word → is_ascii_digit (get_or word index 0) ≡ true →
    digit ≡ get_or word index 0 - 48 → digit < 10 → Digits word (value * 10 + digit) (index + 1)
at_digit word value index digit d h t e n = record {
  is = ap (λ v. v * 10 + digit) d.is ∙ ap (λ k. number_from (take index word) * 10 + k) e ∙ sym (fold_more (λ n b. n * 10 + (b - 48)) 0 word index 0 h);
  digits = list_all_more is_ascii_digit word index 0 h ∙ ap (λ b. b && is_ascii_digit (get_or word index 0)) d.digits ∙ t;
  small = omega (arith, power index, d.small);
}

is_some_word : (word : List ℕ) → 0 < length word → is_word word ≡ true
is_some_word [] h = absurd (omega arith)
is_some_word (x ∷ xs) h = refl

tests : (a b c : Bool) (n : ℕ) → a ≡ true → b ≡ true → c ≡ true → Some n ≡ (cond {A = Option ℕ} (a && (b && c)) (Some n) None)
tests a b c n p q r = rw (p, q, r) refl

-- all of the digits
pub number_is : (most : ℕ) (word : List ℕ) (value index : ℕ) → Digits word value index → length word ≤ index → 0 < length word → length word ≤ most → Some value ≡ number most word
unfolding number
number_is most word value index d all some short =
    let whole = take_all index word all in
    ap (λ v. Some v) (d.is ∙ ap number_from whole)
    ∙ tests (is_word word) (nat_le (length word) most) (list_all is_ascii_digit word) (number_from word) (is_some_word word some) (grind (arith, nat_tests)) (ap (list_all is_ascii_digit) (sym whole) ∙ d.digits)

nothing : (a b c : Bool) (n : ℕ) → c ≡ false → None ≡ (cond {A = Option ℕ} (a && (b && c)) (Some n) None)
nothing true true c n r = rw r refl
nothing true false c n r = refl
nothing false b c n r = refl

pub no_digit : (most : ℕ) (word : List ℕ) (index : ℕ) → index < length word → is_ascii_digit (get_or word index 0) ≡ false → None ≡ number most word
unfolding number
no_digit most word index h f = nothing (is_word word) (nat_le (length word) most) (list_all is_ascii_digit word) (number_from word) (list_all_at is_ascii_digit word index 0 h f)

long : (a b c : Bool) (n : ℕ) → b ≡ false → None ≡ (cond {A = Option ℕ} (a && (b && c)) (Some n) None)
long true b c n r = rw r refl
long false b c n r = refl

pub too_long : (most : ℕ) (word : List ℕ) → most < length word → None ≡ number most word
unfolding number
too_long most word h = long (is_word word) (nat_le (length word) most) (list_all is_ascii_digit word) (number_from word) (grind (arith, nat_tests))

pub too_short : (most : ℕ) (word : List ℕ) → length word ≡ 0 → None ≡ number most word
unfolding number
too_short most [] h = refl
too_short most (x ∷ xs) h = absurd (omega (arith, h))

-- all of the digits are at most so many
pub is_small : (most : ℕ) (word : List ℕ) (value index : ℕ) → Digits word value index → index ≤ most → value < 10 ^ most
is_small most word value index d h = lt_of_lt_of_le d.small (pow-le-pow_right (lit< tt) h)
