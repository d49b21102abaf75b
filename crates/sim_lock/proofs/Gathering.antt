-- What is known once all seats are one.
use Rattle.std.proofs.Common.{◌≡◌, ◌≢◌, ℕ, zero, suc, ◌<◌, List, [], ◌∷◌, ◌++◌, false, cond, length, get_or, refl, ap, ◌∙◌, subst, arith, length-append, ne_eqb}
use Rattle.std.proofs.lemmas.List.{get_or_at}
use Rattle.std.specs.Prelude.{All}
use Rattle.sim_lock.specs.declared.kept.Kept.{Ghosts}
use Rattle.sim_lock.specs.declared.seat.Seat.{Seat}
use Rattle.sim_lock.specs.declared.rule.Part.{Part}
use Rattle.sim_lock.specs.Entries.{of_session, Begins}
use Rattle.sim_lock.specs.Rule.{total, Each, Fits, sits, has, session_in, mine_in, seen_in, holds_in}
use Rattle.sim_lock.specs.Seats.{session, mine, seen, gathered}
use Rattle.sim_lock.proofs.Lists.{total_append}

module _ {C E : Type 0} where
  one_idle : (v : List (Part C E)) → length v ≡ 1 → holds_in v ≡ false → total has v ≡ 0
  one_idle [] one idle = refl
  one_idle (p ∷ []) one idle = let z : has p ≡ 0 = ap (λ b. cond b 1 0) idle in omega arith
  one_idle (p ∷ q ∷ qs) one idle = absurd (omega arith)

  one_apart : (v : List (Part C E)) (k : ℕ) → length v ≡ 1 → session_in v ≢ k → total (sits k) v ≡ 0
  one_apart [] k one apart = refl
  one_apart (p ∷ []) k one apart = let z : sits k p ≡ 0 = ap (λ b. cond b 1 0) (ne_eqb p.session k apart) in omega arith
  one_apart (p ∷ q ∷ qs) k one apart = absurd (omega arith)

  one_fits : (whose : E → ℕ) (c : C) (log : List E) (word : ℕ) (v : List (Part C E)) → length v ≡ 1 → Each (Fits whose c log word) v → (of_session whose (session_in v) log ≡ mine_in v) × Begins (seen_in v) log
  one_fits whose c log word [] one h = absurd (omega arith)
  one_fits whose c log word (p ∷ ps) one h = (h.0.1, h.0.2)

  each_left : (P : Part C E → Type 0) (v w : List (Part C E)) → Each P (v ++ w) → Each P v
  each_left P [] w h = tt
  each_left P (x ∷ xs) w h = (h.0, each_left P xs w h.1)

  each_right : (P : Part C E → Type 0) (v w : List (Part C E)) → Each P (v ++ w) → Each P w
  each_right P [] w h = h
  each_right P (x ∷ xs) w h = each_right P xs w h.1

module _ {B C D E F : Type 0} {K : Ghosts B C D E F} where
  pub gathered_long : (seats : List (Seat B C D E F K)) → length (gathered seats) ≡ length seats
  gathered_long [] = refl
  gathered_long (x ∷ xs) = let r = gathered_long xs in let a = length-append (gathered xs) x.raw.me.0 in let o = x.one in omega arith

  pub gathered_idle : (seats : List (Seat B C D E F K)) → total has (gathered seats) ≡ 0
  gathered_idle [] = refl
  gathered_idle (x ∷ xs) = let r = gathered_idle xs in let a = total_append has (gathered xs) x.raw.me.0 in let o = one_idle x.raw.me.0 x.one x.idle in omega arith

  pub gathered_apart : (k : ℕ) (seats : List (Seat B C D E F K)) → All (λ s. session s ≢ k) seats → total (sits k) (gathered seats) ≡ 0
  gathered_apart k [] h = refl
  gathered_apart k (x ∷ xs) h =
      let r = gathered_apart k xs (λ j d lt. h (suc j) d (omega arith)) in
      let a = total_append (sits k) (gathered xs) x.raw.me.0 in
      let o = one_apart x.raw.me.0 k x.one (h 0 x (omega arith)) in
      omega arith

  pub gathered_fits : (whose : E → ℕ) (c : C) (log : List E) (word : ℕ) (seats : List (Seat B C D E F K)) → Each (Fits whose c log word) (gathered seats) → All (λ s. (of_session whose (session s) log ≡ mine s) × Begins (seen s) log) seats
  gathered_fits whose c log word [] h k d lt = absurd (omega arith)
  gathered_fits whose c log word (x ∷ xs) h zero d lt = one_fits whose c log word x.raw.me.0 x.one (each_right (Fits whose c log word) (gathered xs) x.raw.me.0 h)
  gathered_fits whose c log word (x ∷ xs) h (suc k) d lt = gathered_fits whose c log word xs (each_left (Fits whose c log word) (gathered xs) x.raw.me.0 h) k d (omega arith)

-- what holds of each element holds of this one
pub all_at : {A : Type 0} (P : A → Type 0) (xs front rest : List A) (x : A) → xs ≡ front ++ x ∷ rest → All P xs → P x
all_at P xs front rest x is h =
    let n : ℕ = length front in
    let lt : n < length xs = omega (arith, ap length is, length-append front (x ∷ rest)) in
    subst P (ap (λ l. get_or l n x) is ∙ get_or_at front x rest x n refl) (h n x lt)
