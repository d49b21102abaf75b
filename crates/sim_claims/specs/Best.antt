-- The least piece with a finding.
use Rattle.std.specs.Prelude.{ℕ, zero, suc, ◌≡◌, ◌<◌, leb, cond, List, [], Option, Some, None}
use Rattle.std.specs.Prelude.{Result, Ok, Err, MatchOption, IfOk}
use Rattle.atomic_table.specs.Seated.{TableId}
use Rattle.atomic_table.specs.declared.shared.Seat.{Seat}
use Rattle.sim_claims.specs.declared.hand.Hand.{Hand}
use Rattle.sim_claims.specs.Claims.{times, past}

-- of two findings, the one with the lesser piece
abbrev pub nearer_of : Option (ℕ × ℕ) → Option (ℕ × ℕ) → Option (ℕ × ℕ)
nearer_of None b = b
nearer_of (Some x) None = Some x
nearer_of (Some x) (Some y) = cond (leb x.0 y.0) (Some x) (Some y)

-- the nearer of two workers' findings, if both are done
abbrev pub both_of : {F : Type 0} → Result (Option (ℕ × ℕ)) F → Result (Option (ℕ × ℕ)) F
    → Result (Option (ℕ × ℕ)) F
both_of (Ok x) (Ok y) = Ok (nearer_of x y)
both_of (Ok x) (Err e) = Err e
both_of (Err e) b = Err e

-- a finding with its piece
abbrev pub at_piece : ℕ → Option ℕ → Option (ℕ × ℕ)
at_piece piece None = None
at_piece piece (Some place) = Some (piece, place)

-- among the first n pieces that are in this list, the least one with a finding
abbrev pub IsBest : (ℕ → Option ℕ) → ℕ → List ℕ → Option (ℕ × ℕ) → Type 0
IsBest f n xs r =
    MatchOption r
    ((x : ℕ) → x < n → 0 < times x xs → f x ≡ None)
    (λ p. (p.0 < n) × (f p.0 ≡ Some p.1) × ((x : ℕ) → x < p.0 → 0 < times x xs → f x ≡ None))

-- the least of the first n pieces that has a finding
abbrev pub IsFirst : (ℕ → Option ℕ) → ℕ → Option (ℕ × ℕ) → Type 0
IsFirst f n r =
    MatchOption r
    ((x : ℕ) → x < n → f x ≡ None)
    (λ p. (p.0 < n) × (f p.0 ≡ Some p.1) × ((x : ℕ) → x < p.0 → f x ≡ None))

-- A worker with `parts` parts is done: its result is the least piece it drew that has a finding,
-- and it drew a number that is no piece
abbrev pub IsDone : {F : Type 0} → TableId → (ℕ → Option ℕ) → ℕ → ℕ → Seat (Unit {0}) Hand
    → Result (Option (ℕ × ℕ)) F → Type 0
IsDone t f n parts worker r =
    (worker.table_id ≡ t) × (worker.me.1 ≡ []) × (worker.me.0.parts ≡ parts)
    × IfOk r (λ b. IsBest f n worker.me.0.drawn b × (0 < past n worker.me.0.drawn))

-- the first finding, or the second if there is no first
abbrev pub or_else : Option (ℕ × ℕ) → Option (ℕ × ℕ) → Option (ℕ × ℕ)
or_else None b = b
or_else (Some x) b = Some x

-- the first finding of a walk over k pieces in order, from piece `from` on
abbrev pub first_from : (ℕ → Option ℕ) → ℕ → ℕ → Option (ℕ × ℕ)
first_from f from zero = None
first_from f from (suc k) = or_else (at_piece from (f from)) (first_from f (suc from) k)
