-- The input cut at its line ends, the first line first.
use Rattle.std.proofs.Common.{◌≡◌, ℕ, ◌<◌, List, [], ◌∷◌, ◌++◌, length, refl, sym, ◌∙◌, ap, append_assoc, arith, cond, Bool, true, false}
use Rattle.std.proofs.lemmas.Bool.Decides.{nat_tests}
use Rattle.std.specs.Prelude.{◌==◌}
use Rattle.std.specs.List.{onto_first}
use Rattle.std.specs.Str.Lines.{lines, lines_of_parts, strip_carriage_return}
use Rattle.std.proofs.lemmas.List.Splits.{slice_split_at, slice_split_none}
use Rattle.sim_lines.specs.Cut.{HasNoLineEnd, parts, whole_lines, whole_lines_of_parts}
use Rattle.sim_lines.specs.Taken.{IsWholeLine, IsLastLine}

onto_some : (x : ℕ) (ps : List (List ℕ)) → (q : List ℕ) × (more : List (List ℕ)) × (onto_first x ps ≡ q ∷ more)
onto_some x [] = (x ∷ [], [], refl)
onto_some x (p ∷ ps) = (x ∷ p, ps, refl)

cond_some : (b : Bool) (x : ℕ) (ps : List (List ℕ)) → (q : List ℕ) × (more : List (List ℕ)) × (cond b ([] ∷ ps) (onto_first x ps) ≡ q ∷ more)
cond_some true x ps = ([], ps, refl)
cond_some false x ps = onto_some x ps

-- there is always a first part
pub parts_some : (bytes : List ℕ) → (q : List ℕ) × (more : List (List ℕ)) × (parts bytes ≡ q ∷ more)
parts_some [] = ([], [], refl)
parts_some (x ∷ xs) = cond_some (x == 10) x (parts xs)

pub parts_first : (front tail : List ℕ) → HasNoLineEnd front → parts (front ++ 10 ∷ tail) ≡ front ∷ parts tail
parts_first front tail h = slice_split_at (λ b. b == 10) front 10 tail h refl

pub parts_only : (front : List ℕ) → HasNoLineEnd front → parts front ≡ front ∷ []
parts_only front h = slice_split_none (λ b. b == 10) front h

pub lines-first : (front tail : List ℕ) → HasNoLineEnd front → lines (front ++ 10 ∷ tail) ≡ strip_carriage_return front ∷ lines tail
lines-first front tail h =
    let s = parts_some tail in
    ap lines_of_parts (parts_first front tail h)
    ∙ ap (λ ps. lines_of_parts (front ∷ ps)) s.2
    ∙ ap (λ ps. strip_carriage_return front ∷ lines_of_parts ps) (sym s.2)

pub whole_lines-first : (front tail : List ℕ) → HasNoLineEnd front → whole_lines (front ++ 10 ∷ tail) ≡ strip_carriage_return front ∷ whole_lines tail
whole_lines-first front tail h =
    let s = parts_some tail in
    ap whole_lines_of_parts (parts_first front tail h)
    ∙ ap (λ ps. whole_lines_of_parts (front ∷ ps)) s.2
    ∙ ap (λ ps. strip_carriage_return front ∷ whole_lines_of_parts ps) (sym s.2)

not_zero : (n : ℕ) → 0 < n → (n == 0) ≡ false
not_zero n h = grind (arith, nat_tests)

pub lines-last : (x : ℕ) (xs : List ℕ) → HasNoLineEnd (x ∷ xs) → lines (x ∷ xs) ≡ (x ∷ xs) ∷ []
lines-last x xs h =
    let some : (length (x ∷ xs) == 0) ≡ false = not_zero (length (x ∷ xs)) (omega arith) in
    ap lines_of_parts (parts_only (x ∷ xs) h) ∙ ap (λ b. cond b [] ((x ∷ xs) ∷ [])) some

pub whole_lines-last : (front : List ℕ) → HasNoLineEnd front → whole_lines front ≡ []
whole_lines-last front h = ap whole_lines_of_parts (parts_only front h)

-- the front with its line end is one line, whatever follows
pub whole_line : (front : List ℕ) → HasNoLineEnd front → IsWholeLine (front ++ 10 ∷ []) (strip_carriage_return front)
whole_line front h = record {
  all = λ tail. ap lines (append_assoc front (10 ∷ []) tail) ∙ lines-first front tail h;
  whole = λ tail. ap whole_lines (append_assoc front (10 ∷ []) tail) ∙ whole_lines-first front tail h;
}

pub last_line : (front : List ℕ) → HasNoLineEnd front → 0 < length front → IsLastLine front front
last_line [] h p = absurd (omega arith)
last_line (x ∷ xs) h p = record { all = lines-last x xs h; whole = whole_lines-last (x ∷ xs) h }
