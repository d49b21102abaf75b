-- What a choice of faults leaves of events.
use Rattle.std.proofs.Common.{◌≡◌, ℕ, zero, suc, ◌+◌, ◌≤◌, Bool, true, false, List, [], ◌∷◌, length, replicate, refl, ap, arith}
use Rattle.std.specs.Prelude.{if◌then◌else◌}
use Rattle.std.specs.List.{count_by}
use Rattle.std.proofs.lemmas.List.Sums.{sum_by-cons}
use Rattle.sim_events.specs.declared.Event.{Event}
use Rattle.sim_events.specs.declared.Event.TheVariants as event
use Rattle.sim_shrink.specs.Choices.{kept_by, is_fault}

if_short : (b : Bool) (e : Event) (xs es : List Event) → length xs ≤ length es → length (if b then e ∷ xs else xs) ≤ length (e ∷ es)
if_short true e xs es le = omega (arith, le)
if_short false e xs es le = omega (arith, le)

-- it is no longer
pub kept_short : (choice : List Bool) (es : List Event) → length (kept_by choice es) ≤ length es
kept_short choice [] = omega arith
kept_short choice (event.Step ∷ es) = let h = kept_short choice es in omega (arith, h)
kept_short choice (event.Advance to ∷ es) = let h = kept_short choice es in omega (arith, h)
kept_short [] (event.Fault f ∷ es) = let h = kept_short [] es in omega (arith, h)
kept_short (b ∷ choice) (event.Fault f ∷ es) = if_short b (event.Fault f) (kept_by choice es) es (kept_short choice es)

-- all of it where all faults stay
pub all_kept : (n : ℕ) (es : List Event) → n ≡ count_by is_fault es → kept_by (replicate n true) es ≡ es
all_kept n [] e = refl
all_kept n (event.Step ∷ es) e =
    let one : count_by is_fault (event.Step ∷ es) ≡ 0 + count_by is_fault es = sum_by-cons _ event.Step es in
    ap (λ (xs : List Event). event.Step ∷ xs) (all_kept n es (omega (arith, e, one)))
all_kept n (event.Advance to ∷ es) e =
    let one : count_by is_fault (event.Advance to ∷ es) ≡ 0 + count_by is_fault es = sum_by-cons _ (event.Advance to) es in
    ap (λ (xs : List Event). event.Advance to ∷ xs) (all_kept n es (omega (arith, e, one)))
all_kept zero (event.Fault f ∷ es) e =
    let one : count_by is_fault (event.Fault f ∷ es) ≡ 1 + count_by is_fault es = sum_by-cons _ (event.Fault f) es in
    absurd (omega (arith, e, one))
all_kept (suc n) (event.Fault f ∷ es) e =
    let one : count_by is_fault (event.Fault f ∷ es) ≡ 1 + count_by is_fault es = sum_by-cons _ (event.Fault f) es in
    ap (λ (xs : List Event). event.Fault f ∷ xs) (all_kept n es (omega (arith, e, one)))
