-- A slot that is written, and written again as it was.
use Rattle.std.proofs.Common.{ℕ, ◌≡◌, ◌∙◌, List, set, get_or, ap, sym}
use Rattle.std.proofs.lemmas.List.{set-set, set-get_or}

pub put_again : {X : Type 0} (xs : List X) (i : ℕ) (new old d : X) → get_or xs i d ≡ old → set (set xs i new) i old ≡ xs
put_again xs i new old d is = set-set xs i new old ∙ ap (set xs i) (sym is) ∙ set-get_or xs i d
