-- Choices of faults: how many stay, and what dropping some of them makes.
use Rattle.std.proofs.Common.{◌≡◌, ℕ, zero, suc, ◌+◌, ◌<◌, ◌≤◌, Bool, true, false, List, [], ◌∷◌, ◌++◌, length, take, drop, replicate, refl, sym, ap, ◌∙◌, arith, length-append, length-take, length-drop}
use Rattle.std.specs.Prelude.{slice_set, slice_index_or}
use Rattle.std.specs.List.{list_any}
use Rattle.std.proofs.lemmas.List.{take-append-drop, drop-drop, set_split, length-replicate}
use Rattle.std.proofs.lemmas.List.Sums.{sum_by-cons, sum_by-append}
use Rattle.sim_shrink.specs.Choices.{count_left, without}

-- of one that stays, and more
pub some_left : (xs : List Bool) → list_any (λ stays. stays) xs ≡ true → 0 < count_left xs
some_left [] e = absurd cc
some_left (true ∷ xs) e = let one : count_left (true ∷ xs) ≡ 1 + count_left xs = sum_by-cons _ true xs in omega (arith, one)
some_left (false ∷ xs) e =
    let one : count_left (false ∷ xs) ≡ 0 + count_left xs = sum_by-cons _ false xs in
    let h : 0 < count_left xs = some_left xs e in
    omega (arith, one, h)

none_of : (n : ℕ) → count_left (replicate n false) ≡ 0
none_of zero = refl
none_of (suc n) =
    let one : count_left (false ∷ replicate n false) ≡ 0 + count_left (replicate n false) = sum_by-cons _ false (replicate n false) in
    let h : count_left (replicate n false) ≡ 0 = none_of n in
    omega (arith, one, h)

count_of : (xs ys zs : List Bool) → count_left (xs ++ (ys ++ zs)) ≡ count_left xs + (count_left ys + count_left zs)
count_of xs ys zs =
    let a : count_left (xs ++ (ys ++ zs)) ≡ count_left xs + count_left (ys ++ zs) = sum_by-append _ xs (ys ++ zs) in
    let b : count_left (ys ++ zs) ≡ count_left ys + count_left zs = sum_by-append _ ys zs in
    omega (arith, a, b)

-- a choice in three parts
parts : (from n : ℕ) (xs : List Bool) → take from xs ++ (take n (drop from xs) ++ drop n (drop from xs)) ≡ xs
parts from n xs = ap (λ (ys : List Bool). take from xs ++ ys) (take-append-drop n (drop from xs)) ∙ take-append-drop from xs

-- where one of the part stays, fewer stay without it
pub fewer_left : (from n : ℕ) (xs : List Bool) → list_any (λ stays. stays) (take n (drop from xs)) ≡ true → count_left (without from n xs) < count_left xs
fewer_left from n xs e =
    let some : 0 < count_left (take n (drop from xs)) = some_left (take n (drop from xs)) e in
    let all : count_left (take from xs ++ (take n (drop from xs) ++ drop n (drop from xs))) ≡ count_left xs = ap count_left (parts from n xs) in
    let a = count_of (take from xs) (take n (drop from xs)) (drop n (drop from xs)) in
    let b = count_of (take from xs) (replicate n false) (drop n (drop from xs)) in
    let none : count_left (replicate n false) ≡ 0 = none_of n in
    omega (arith, some, all, a, b, none)

pub long_without : (from n : ℕ) (xs : List Bool) → from + n ≤ length xs → length (without from n xs) ≡ length xs
long_without from n xs le =
    let a = length-append (take from xs) (replicate n false ++ drop n (drop from xs)) in
    let b = length-append (replicate n false) (drop n (drop from xs)) in
    let d = length-take from xs in
    let e = length-replicate n false in
    let f = length-drop n (drop from xs) in
    let g = length-drop from xs in
    omega (arith, a, b, d, e, f, g, le)

-- one fault alone
pub without_one : (from n : ℕ) (xs : List Bool) → n ≡ 1 → from + n ≤ length xs → without from n xs ≡ slice_set xs from false
without_one from n xs one le =
    ap (λ (k : ℕ). without from k xs) one
    ∙ ap (λ (ys : List Bool). take from xs ++ false ∷ ys) (drop-drop 1 from xs ∙ ap (λ (k : ℕ). drop k xs) (let k : from + 1 ≡ suc from = omega arith in k))
    ∙ sym (set_split xs from false (omega (arith, one, le)))

-- where none of one fault stays, it doesn't
pub none_there : (from : ℕ) (xs : List Bool) → list_any (λ stays. stays) (take 1 (drop from xs)) ≡ false → slice_index_or xs from false ≡ false
none_there zero [] e = refl
none_there zero (true ∷ xs) e = absurd cc
none_there zero (false ∷ xs) e = refl
none_there (suc from) [] e = refl
none_there (suc from) (x ∷ xs) e = none_there from xs e

-- where none stays at all, none does
pub none_anywhere : (i : ℕ) (xs : List Bool) → count_left xs ≡ 0 → slice_index_or xs i false ≡ true → ⊥
none_anywhere i [] e at = absurd cc
none_anywhere i (true ∷ xs) e at = let one : count_left (true ∷ xs) ≡ 1 + count_left xs = sum_by-cons _ true xs in absurd (omega (arith, one, e))
none_anywhere zero (false ∷ xs) e at = absurd cc
none_anywhere (suc i) (false ∷ xs) e at =
    let one : count_left (false ∷ xs) ≡ 0 + count_left xs = sum_by-cons _ false xs in
    none_anywhere i xs (omega (arith, one, e)) at
