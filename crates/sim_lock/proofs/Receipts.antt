-- What holds of each receipt.
use Rattle.std.proofs.Common.{◌≡◌, ◌<◌, List, [], ◌∷◌, ◌++◌, length, sym, subst, arith, length-append}
use Rattle.std.proofs.lemmas.List.{get_or_append_left, get_or_push}
use Rattle.std.specs.Prelude.{All, Result, Ok, IfOk}
use mathlib.Core.Logic.{dite}
use native.Mathlib.Decide.{ℕ_discrete}

-- what follows of each element
pub all_then : {A : Type 0} (P Q : A → Type 0) (l : List A) → ((x : A) → P x → Q x) → All P l → All Q l
all_then P Q l go h k d lt = go _ (h k d lt)

-- and of one more
pub all_push : {A : Type 0} (P : A → Type 0) (l : List A) (x : A) → All P l → P x → All P (l ++ x ∷ [])
all_push P l x h last k d lt =
    dite (ℕ_discrete k (length l))
    (λ is. subst P (sym (get_or_push l x d k (sym is))) last)
    (λ apart.
    let below : k < length l = omega (arith, length-append l (x ∷ [])) in
    subst P (sym (get_or_append_left l (x ∷ []) d k below)) (h k d below))

-- what holds of what is there
pub ok_is : {A F : Type 0} (P : A → Type 0) (r : Result A F) (x : A) → r ≡ Ok x → IfOk r P → P x
ok_is P r x is h = subst (λ q. IfOk q P) is h
