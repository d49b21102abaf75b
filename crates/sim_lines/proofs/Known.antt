-- What is appended or consumed in two steps.
use Rattle.std.proofs.Common.{◌≡◌, ℕ, List, [], ◌++◌, Option, Some, None, append_assoc, append-nil, refl, sym, ◌∙◌, ap}
use Rattle.std.specs.Io.KnownBytes.{Appends, Consumes, prepend_known}

-- nothing appended
pub Appends-none : (known : Option (List ℕ)) → Appends known known []
Appends-none None = tt
Appends-none (Some xs) = sym (append-nil xs)

-- two parts, one after the other
pub Appends-append : (old mid new : Option (List ℕ)) (p q : List ℕ) → Appends old mid p → Appends mid new q → Appends old new (p ++ q)
Appends-append None mid new p q h k = tt
Appends-append (Some xs) None new p q h k = absurd h
Appends-append (Some xs) (Some ys) None p q h k = absurd k
Appends-append (Some xs) (Some ys) (Some zs) p q h k = k ∙ ap (λ l. l ++ q) h ∙ append_assoc xs p q

-- two parts taken, one after the other
pub Consumes-append : (old mid new : Option (List ℕ)) (p q : List ℕ) → Consumes old mid p → Consumes mid new q → Consumes old new (p ++ q)
Consumes-append None mid new p q h k = tt
Consumes-append (Some xs) None new p q h k = absurd h
Consumes-append (Some xs) (Some ys) None p q h k = absurd k
Consumes-append (Some xs) (Some ys) (Some zs) p q h k = h ∙ ap (λ l. p ++ l) k ∙ sym (append_assoc p q zs)

-- nothing is read ahead
pub prepend-none : (known : Option (List ℕ)) → prepend_known [] known ≡ known
prepend-none None = refl
prepend-none (Some xs) = refl

-- what was read ahead is given first
pub Consumes-ahead : (old given new : List ℕ) (known : Option (List ℕ)) → old ≡ given ++ new → Consumes (prepend_known old known) (prepend_known new known) given
Consumes-ahead old given new None h = tt
Consumes-ahead old given new (Some xs) h = ap (λ l. l ++ xs) h ∙ append_assoc given new xs

-- a read, and what is given of it
pub Consumes-read : (given rest read : List ℕ) (old new : Option (List ℕ)) → Consumes old new read → read ≡ given ++ rest → Consumes old (prepend_known rest new) given
Consumes-read given rest read None new h e = tt
Consumes-read given rest read (Some xs) None h e = absurd h
Consumes-read given rest read (Some xs) (Some ys) h e = h ∙ ap (λ l. l ++ ys) e ∙ append_assoc given rest ys

-- nothing taken
pub Consumes-none : (known : Option (List ℕ)) → Consumes known known []
Consumes-none None = tt
Consumes-none (Some xs) = refl
