-- A history, and the entries of one session in it. Each entry has a session and a number.
use Rattle.std.specs.Prelude.{ℕ, ◌≡◌, ◌≢◌, ◌==◌, ◌-◌, List, [], ◌∷◌, ◌++◌, Some, filter, slice_get}

-- the first list is a prefix of the second
abbrev pub Begins : {E : Type 0} → List E → List E → Type 0
Begins {E} front whole = (rest : List E) × (whole ≡ front ++ rest)

abbrev pub EndsWith : {E : Type 0} → List E → E → Type 0
EndsWith {E} log e = (front : List E) × (log ≡ front ++ e ∷ [])

module _ {E : Type 0} (session_of : E → ℕ) where
  -- the entries of one session, in order
  abbrev pub of_session : ℕ → List E → List E
  of_session s log = filter (λ e. session_of e == s) log

  -- the history grew only by entries of this session
  abbrev pub Grows : ℕ → List E → List E → Type 0
  Grows s old new = (own : List E) × (new ≡ old ++ own) × ((k : ℕ) → k ≢ s → of_session k own ≡ [])

  -- the receipt is its session's entry of that number
  abbrev pub HasEntry : (E → ℕ) → List E → E → Type 0
  HasEntry number_of log receipt =
      slice_get (of_session (session_of receipt) log) (number_of receipt - 1) ≡ Some receipt
