-- A text of lines without a marker, and what follows it.
use Rattle.std.proofs.Common.{◌≡◌, ℕ, zero, suc, ◌-◌, ◌<◌, ◌≤◌, ◌||◌, List, [], ◌∷◌, ◌++◌, length, Some, None, Bool, true, false, cond, refl, sym, ap, ◌∙◌, inl, inr, ◌⊎◌, codes, arith, append_assoc, append-nil, length-append}
use Rattle.std.specs.Prelude.{◌==◌, slice_get}
use Rattle.std.specs.List.{list_any}
use Rattle.std.specs.Str.Lines.{strip_carriage_return}
use Rattle.std.proofs.lemmas.Bool.{or_parts}
use Rattle.std.proofs.lemmas.Bool.Decides.{eqb_tells}
use Rattle.std.proofs.lemmas.List.Elements.{All-nil, All-cons, All-head, All-tail}
use Rattle.sim_lines.specs.Cut.{HasNoLineEnd, head_of, is_marker}
use Rattle.sim_lines.proofs.Cuts.{lines-first}
use Rattle.sim_lines.proofs.Heads.{head_of-marker, head_of-line}
use Rattle.sim_reseed.specs.Input.{ends_its_lines, with_line_end, has_marker}

-- a byte before a text that is not empty
ends-before : (b : ℕ) (text : List ℕ) → 0 < length text → ends_its_lines (b ∷ text) ≡ ends_its_lines text
ends-before b [] some = absurd (omega arith)
ends-before b (c ∷ more) some = refl

after_first : (x y : ℕ) (more : List ℕ) → length (x ∷ y ∷ more) - 1 ≡ suc (length (y ∷ more) - 1)
after_first x y more = omega arith

-- what the last byte tells
pub ends-last : (text : List ℕ) (b : ℕ) → slice_get text (length text - 1) ≡ Some b → ends_its_lines text ≡ (b == 10)
ends-last [] b h = cc
ends-last (x ∷ []) b h = let e : x ≡ b = cc in rw e
ends-last (x ∷ y ∷ more) b h = ends-last (y ∷ more) b (sym (ap (slice_get (x ∷ y ∷ more)) (after_first x y more)) ∙ h)

pub ends-none : (text : List ℕ) → slice_get text (length text - 1) ≡ None → ends_its_lines text ≡ true
ends-none [] h = refl
ends-none (x ∷ []) h = cc
ends-none (x ∷ y ∷ more) h = ends-none (y ∷ more) (sym (ap (slice_get (x ∷ y ∷ more)) (after_first x y more)) ∙ h)

-- what stands before a text that is not empty does not matter
pub ends-append : (xs ys : List ℕ) → 0 < length ys → ends_its_lines (xs ++ ys) ≡ ends_its_lines ys
ends-append [] ys some = refl
ends-append (x ∷ xs) ys some = ends-before x (xs ++ ys) (omega (arith, length-append xs ys)) ∙ ends-append xs ys some

pub ends-both : (xs ys : List ℕ) → ends_its_lines xs ≡ true → ends_its_lines ys ≡ true → ends_its_lines (xs ++ ys) ≡ true
ends-both xs [] h k = rw (append-nil xs) h
ends-both xs (y ∷ ys) h k = ends-append xs (y ∷ ys) (omega arith) ∙ k

-- a line end is the last byte
pub ends-end : (text : List ℕ) → ends_its_lines (text ++ 10 ∷ []) ≡ true
ends-end text = ends-append text (10 ∷ []) (omega arith)

ends-closed : (text : List ℕ) (b : Bool) → ends_its_lines text ≡ b → ends_its_lines (cond b text (text ++ 10 ∷ [])) ≡ true
ends-closed text true h = h
ends-closed text false h = ends-end text

pub ends-with_line_end : (text : List ℕ) → ends_its_lines (with_line_end text) ≡ true
ends-with_line_end text = ends-closed text (ends_its_lines text) refl

-- the lines after a line have their ends too
ends-rest : (front rest : List ℕ) → ends_its_lines (front ++ 10 ∷ rest) ≡ true → ends_its_lines rest ≡ true
ends-rest front [] h = refl
ends-rest front (b ∷ rest) h = sym (ends-append front (10 ∷ b ∷ rest) (omega arith)) ∙ h

-- a text without a line end has a last line without one, if it has any
plain-none : (text : List ℕ) → HasNoLineEnd text → ends_its_lines text ≡ true → text ≡ []
plain-none [] plain h = refl
plain-none (b ∷ []) plain h = let wrong : true ≡ false = sym h ∙ All-head (λ x. (x == 10) ≡ false) b [] plain in cc
plain-none (b ∷ c ∷ more) plain h =
    let none : c ∷ more ≡ [] = plain-none (c ∷ more) (All-tail (λ x. (x == 10) ≡ false) b (c ∷ more) plain) h in cc

-- the bytes up to the first line end, if there is one
first_end : (bytes : List ℕ) → HasNoLineEnd bytes ⊎ ((front : List ℕ) × (rest : List ℕ) × HasNoLineEnd front × (bytes ≡ front ++ 10 ∷ rest))
first_end [] = inl (All-nil (λ x. (x == 10) ≡ false))
first_end (x ∷ xs) = elim (eqb_tells x 10) [
  | inl e ↦ inr ([], xs, All-nil (λ x. (x == 10) ≡ false), ap (λ b. b ∷ xs) e.1)
  | inr n ↦ elim (first_end xs) [
    | inl h ↦ inl (All-cons (λ x. (x == 10) ≡ false) x xs n.0 h)
    | inr r ↦ inr (x ∷ r.0, r.1, All-cons (λ x. (x == 10) ≡ false) x r.0 n.0 r.2, ap (λ bs. x ∷ bs) r.3)
  ]
]

-- The lines are looked at one after the other.
skips : (n : ℕ) (text tail : List ℕ) → length text ≤ n → ends_its_lines text ≡ true → has_marker text ≡ false → head_of (text ++ tail) ≡ (text ++ (head_of tail).0, (head_of tail).1)
skips zero [] tail short ends none = refl
skips zero (b ∷ text) tail short ends none = absurd (omega arith)
skips (suc n) text tail short ends none = elim (first_end text) [
  | inl plain ↦ let e : text ≡ [] = plain-none text plain ends in rw e refl
  | inr r ↦
      let front : List ℕ = r.0 in
      let rest : List ℕ = r.1 in
      let marks : (is_marker (strip_carriage_return front) || has_marker rest) ≡ false = sym (ap (list_any is_marker) (lines-first front rest r.2)) ∙ sym (ap has_marker r.3) ∙ none in
      let parts = or_parts (is_marker (strip_carriage_return front)) (has_marker rest) marks in
      let more = skips n rest tail (omega (arith, ap length r.3, length-append front (10 ∷ rest))) (ends-rest front rest (sym (ap ends_its_lines r.3) ∙ ends)) parts.1 in
      ap (λ bs. head_of (bs ++ tail)) r.3
      ∙ ap head_of (append_assoc front (10 ∷ rest) tail)
      ∙ head_of-line front (rest ++ tail) r.2 parts.0
      ∙ ap (λ (p : List ℕ × List ℕ). (front ++ 10 ∷ p.0, p.1)) more
      ∙ ap (λ bs. (bs, (head_of tail).1)) (sym (append_assoc front (10 ∷ rest) (head_of tail).0) ∙ ap (λ bs. bs ++ (head_of tail).0) (sym r.3))
]

marker_plain : HasNoLineEnd (codes "---")
marker_plain =
    All-cons (λ x. (x == 10) ≡ false) 45 (45 ∷ 45 ∷ []) refl
    (All-cons (λ x. (x == 10) ≡ false) 45 (45 ∷ []) refl
    (All-cons (λ x. (x == 10) ≡ false) 45 [] refl (All-nil (λ x. (x == 10) ≡ false))))

-- a text of lines without a marker, the marker, and a script
pub head_of-joined : (text script : List ℕ) → ends_its_lines text ≡ true → has_marker text ≡ false → head_of (text ++ (codes "---" ++ 10 ∷ script)) ≡ (text, script)
head_of-joined text script ends none =
    skips (length text) text (codes "---" ++ 10 ∷ script) (omega arith) ends none
    ∙ ap (λ (p : List ℕ × List ℕ). (text ++ p.0, p.1)) (head_of-marker (codes "---") script marker_plain refl)
    ∙ ap (λ bs. (bs, script)) (append-nil text)
