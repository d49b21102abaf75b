-- The operations of the hosts, filled up to 32.
use Rattle.std.proofs.Common.{◌≡◌, ℕ, ◌+◌, ◌-◌, ◌<◌, ◌≤◌, suc, List, [], ◌∷◌, ◌++◌, length, take, set, replicate, sym, ap, ◌∙◌, append_assoc, length-append, arith}
use Rattle.std.proofs.Math.Seq.{take-append-add, set-append_seam}
use Rattle.std.proofs.lemmas.List.{take-replicate, replicate-append-replicate}
use Rattle.sim_scenario.specs.Scenario.{first_32}

pub filled : (ns : List ℕ) → length ns ≤ 32 → first_32 ns ≡ ns ++ replicate (32 - length ns) 0
filled ns h =
    let e : length ns + (32 - length ns) ≡ 32 = omega arith in
    ap (λ m. take m (ns ++ replicate 32 0)) (sym e) ∙ take-append-add ns (replicate 32 0) (32 - length ns) ∙ ap (λ t. ns ++ t) (take-replicate (32 - length ns) 32 0 (omega arith))

-- one more is written behind the others
pub first_32-more : (ns : List ℕ) (v : ℕ) → length ns < 32 → set (first_32 ns) (length ns) v ≡ first_32 (ns ++ v ∷ [])
first_32-more ns v lt =
    let more : 32 - length ns ≡ suc (31 - length ns) = omega arith in
    let size : length (ns ++ v ∷ []) ≡ length ns + 1 = length-append ns (v ∷ []) in
    let left : 31 - length ns ≡ 32 - length (ns ++ v ∷ []) = omega arith in
    ap (λ t. set t (length ns) v) (filled ns (omega arith) ∙ ap (λ m. ns ++ replicate m 0) more)
    ∙ set-append_seam ns 0 (replicate (31 - length ns) 0) v
    ∙ sym (append_assoc ns (v ∷ []) (replicate (31 - length ns) 0))
    ∙ ap (λ m. (ns ++ v ∷ []) ++ replicate m 0) left
    ∙ sym (filled (ns ++ v ∷ []) (omega arith))

-- none is there yet
pub first_32-zeros : (n : ℕ) → n ≤ 32 → length (replicate {A = ℕ} n 0) ≡ n → replicate 32 0 ≡ first_32 (replicate n 0)
first_32-zeros n h size =
    let all : n + (32 - length (replicate {A = ℕ} n 0)) ≡ 32 = omega arith in
    ap (λ m. replicate m 0) (sym all) ∙ sym (replicate-append-replicate {A = ℕ} n (32 - length (replicate {A = ℕ} n 0)) 0) ∙ sym (filled (replicate n 0) (omega arith))
