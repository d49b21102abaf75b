-- A name, a dot and another name.
use Rattle.std.proofs.Common.{◌≡◌, ◌∙◌, refl, sym, ap, arith, ℕ, ◌+◌, ◌<◌, List, [], ◌∷◌, ◌++◌, length, take, drop, cond, Bool, true, false, not, ◌&&◌, ◌||◌, Option, Some, None, inl, inr, get_or, eqb-true, take_at, drop_at, append_assoc, take-append-drop, length-append, option_and_then, option_map}
use Rattle.std.specs.Prelude.{◌==◌, nat_le, nat_lt}
use Rattle.std.specs.List.{list_all, position, position_or_len}
use Rattle.std.specs.Option.{unwrap_or}
use Rattle.std.specs.Str.{bytes_eq}
use Rattle.std.proofs.lemmas.Bool.{and_parts}
use Rattle.std.proofs.lemmas.Bool.Decides.{nat_tests}
use Rattle.std.proofs.lemmas.List.{drop_more}
use Rattle.std.proofs.lemmas.List.Quantifiers.{position-Some}
use Rattle.std.proofs.lemmas.Slice.Eq.{bytes_eq-Decides}
use Rattle.sim_scenario.specs.Scenario.{is_name, is_letter, is_digit, begins_with_letter}
use Rattle.sim_script.specs.Words.{Text, Names, named, host, probe}
use Rattle.sim_script.specs.Conditions.{is_dot, host_and_probe}
use Rattle.sim_script.proofs.Picking.{of_if, of_map, of_then}

-- every byte is a small letter or a digit
abbrev plain : Text → Bool
plain word = list_all (λ c. is_letter c || is_digit c) word

no_dot : (c : ℕ) → (is_letter c || is_digit c) ≡ true → (c == 46) ≡ false
no_dot c h = grind (arith, nat_tests)

named_is_plain : (names : List Text) (absent : ℕ) (word : Text) (n : ℕ) → named names absent word ≡ Some n → plain word ≡ true
unfolding named
named_is_plain names absent word n h = elim (of_if (is_name word) (Some (unwrap_or (position (bytes_eq word) names) absent)) None n h) [
  | inl w ↦ (and_parts (nat_le (length word) 16 && begins_with_letter word) (plain word) w.0).1
  | inr w ↦ absurd (let e = w.1 in cc)
]

dot_after : (x y : Text) → plain x ≡ true → position_or_len is_dot (x ++ 46 ∷ y) ≡ length x
dot_after [] y h = refl
dot_after (c ∷ x) y h =
    let parts = and_parts (is_letter c || is_digit c) (plain x) h in
    let more = dot_after x y parts.1 in
    ap (λ b. cond (not b) (1 + position_or_len is_dot (x ++ 46 ∷ y)) 0) (no_dot c parts.0) ∙ omega (arith, more)

at_dot : (x y : Text) → plain x ≡ true → position is_dot (x ++ 46 ∷ y) ≡ Some (length x)
at_dot x y h =
    let at = dot_after x y h in
    let long = length-append x (46 ∷ y) in
    let within : length x < length (x ++ 46 ∷ y) = omega (arith, long) in
    let is : nat_lt (length x) (length (x ++ 46 ∷ y)) ≡ true = grind (arith, nat_tests) in
    ap (λ n. cond (nat_lt n (length (x ++ 46 ∷ y))) (Some n) None) at ∙ ap (λ b. cond {A = Option ℕ} b (Some (length x)) None) is

by_test : (word key : Text) (n : ℕ) (b : Bool) → bytes_eq word key ≡ b → position is_dot word ≡ Some n → position is_dot key ≡ None → b ≡ false
by_test word key n true same at none = let e = (bytes_eq-Decides word key).0 same in absurd (let f = ap (position is_dot) e in cc)
by_test word key n false same at none = refl

-- a word with a dot is no word without one
pub no_keyword : (names : List Text) (absent : ℕ) (x y key : Text) (h : ℕ) → named names absent x ≡ Some h → position is_dot key ≡ None →
    bytes_eq (x ++ 46 ∷ y) key ≡ false
no_keyword names absent x y key h is none = by_test (x ++ 46 ∷ y) key (length x) (bytes_eq (x ++ 46 ∷ y) key) refl (at_dot x y (named_is_plain names absent x h is)) none

-- a word is what stands before a dot, the dot, and what stands after it
cut_at : (word : Text) (i : ℕ) → position is_dot word ≡ Some i → word ≡ take i word ++ 46 ∷ drop (i + 1) word
cut_at word i e =
    let p = position-Some is_dot word i 0 e in
    let dot : get_or word i 0 ≡ 46 = eqb-true (get_or word i 0) 46 p.1 in
    sym (take-append-drop i word) ∙ ap (λ l. take i word ++ l) (drop_more word i 0 p.0 ∙ ap (λ c. c ∷ drop (i + 1) word) dot)

module _ (names : Names) where
  pub dotted_reads : (x y : Text) (h k : ℕ) → host names x ≡ Some h → probe names y ≡ Some k → host_and_probe names (x ++ 46 ∷ y) ≡ Some (h, k)
  dotted_reads x y h k hx ky =
      let at = at_dot x y (named_is_plain names.hosts 65535 x h hx) in
      let front = take_at x (46 ∷ y) (length x) refl in
      let one : (x ++ 46 ∷ []) ++ y ≡ x ++ 46 ∷ y = append_assoc x (46 ∷ []) y in
      let long : length (x ++ 46 ∷ []) ≡ length x + 1 = length-append x (46 ∷ []) in
      let back : drop (length x + 1) (x ++ 46 ∷ y) ≡ y = ap (drop (length x + 1)) (sym one) ∙ drop_at (x ++ 46 ∷ []) y (length x + 1) long in
      ap (option_and_then (λ dot. option_and_then (λ a. option_map (λ b. (a, b)) (probe names (drop (dot + 1) (x ++ 46 ∷ y)))) (host names (take dot (x ++ 46 ∷ y))))) at
      ∙ ap (λ w. option_and_then (λ a. option_map (λ b. (a, b)) (probe names (drop (length x + 1) (x ++ 46 ∷ y)))) (host names w)) front
      ∙ ap (λ o. option_and_then (λ a. option_map (λ b. (a, b)) (probe names (drop (length x + 1) (x ++ 46 ∷ y)))) o) hx
      ∙ ap (λ w. option_map (λ b. (h, b)) (probe names w)) back
      ∙ ap (option_map (λ b. (h, b))) ky

  split_is : (word : Text) (i : ℕ) (v : ℕ × ℕ) → position is_dot word ≡ Some i →
      option_and_then (λ a. option_map (λ b. (a, b)) (probe names (drop (i + 1) word))) (host names (take i word)) ≡ Some v →
      (x : Text) × (y : Text) × (word ≡ x ++ 46 ∷ y) × (host names x ≡ Some v.0) × (probe names y ≡ Some v.1)
  split_is word i v at e =
      let a = of_then (λ a. option_map (λ b. (a, b)) (probe names (drop (i + 1) word))) (host names (take i word)) v e in
      let b = of_map (λ b. (a.0, b)) (probe names (drop (i + 1) word)) v a.2 in
      (take i word, drop (i + 1) word, cut_at word i at, a.1 ∙ ap (λ (w : ℕ × ℕ). Some w.0) b.2, b.1 ∙ ap (λ (w : ℕ × ℕ). Some w.1) b.2)

  pub dotted_is : (word : Text) (v : ℕ × ℕ) → host_and_probe names word ≡ Some v →
      (x : Text) × (y : Text) × (word ≡ x ++ 46 ∷ y) × (host names x ≡ Some v.0) × (probe names y ≡ Some v.1)
  dotted_is word v e =
      let d = of_then (λ dot. option_and_then (λ a. option_map (λ b. (a, b)) (probe names (drop (dot + 1) word))) (host names (take dot word))) (position is_dot word) v e in
      split_is word d.0 v d.1 d.2
