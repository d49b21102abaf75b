-- New seats.
use Rattle.std.proofs.Common.{◌≡◌, ℕ, ◌<◌, List, [], ◌∷◌, ◌++◌, false, length, refl, sym, ap, subst, arith, length-append}
use Rattle.std.proofs.lemmas.List.{get_or_append_left, get_or_push}
use mathlib.Core.Logic.{dite}
use native.Mathlib.Decide.{ℕ_discrete}
use Rattle.sim_lock.specs.declared.kept.Kept.{Ghosts}
use Rattle.sim_lock.specs.declared.seat.Seat.{Seat}
use Rattle.sim_lock.specs.declared.seat.Lock.{Lock}
use Rattle.sim_lock.specs.Rule.{part, session_in, mine_in, seen_in, ScenarioIs}
use Rattle.sim_lock.specs.Seats.{IsNew, AreNew}

module _ {B C D E F : Type 0} {K : Ghosts B C D E F} where
  pub is_new : (lock : Lock B C D E F) (c : C) (k : ℕ) (s : Seat B C D E F K) → s.raw.table_id ≡ lock.table.shared.table_id → s.raw.me.0 ≡ part k c [] [] false ∷ [] → IsNew lock c k s
  is_new lock c k s of is = (of, subst (ScenarioIs c) (sym is) refl, ap session_in is, ap mine_in is, ap seen_in is)

  pub are_new_push : (lock : Lock B C D E F) (c : C) (seats : List (Seat B C D E F K)) (s : Seat B C D E F K) → AreNew lock c seats → IsNew lock c (length seats) s → AreNew lock c (seats ++ s ∷ [])
  are_new_push lock c seats s old new k d lt =
      dite (ℕ_discrete k (length seats))
      (λ is. subst (λ (x : ℕ × Seat B C D E F K). IsNew lock c x.0 x.1) (λ i. (sym is i, sym (get_or_push seats s d k (sym is)) i)) new)
      (λ apart.
      let below : k < length seats = omega (arith, length-append seats (s ∷ [])) in
      subst (IsNew lock c k) (sym (get_or_append_left seats (s ∷ []) d k below)) (old k d below))
