-- What a seat knows, and to which lock it belongs.
use Rattle.std.specs.Prelude.{ℕ, ◌≡◌, ◌<◌, ◌-◌, List, [], ◌∷◌, ◌++◌, Some, length, slice_get}
use Rattle.std.specs.Prelude.{slice_index_or}
use Rattle.sim_lock.specs.declared.kept.Kept.{Ghosts}
use Rattle.sim_lock.specs.declared.seat.Seat.{Seat}
use Rattle.sim_lock.specs.declared.seat.Lock.{Lock}
use Rattle.sim_lock.specs.declared.rule.Part.{Part}
use Rattle.sim_lock.specs.Rule.{session_in, mine_in, seen_in, ScenarioIs}

module _ {B C D E F : Type 0} where
  -- the number of sessions that share the lock
  abbrev pub sessions_of : Lock B C D E F → ℕ
  sessions_of lock = lock.sessions

  -- the scenario of the book with which the lock was made
  abbrev pub told : (B → C) → Lock B C D E F → C
  told scenario lock = scenario lock.table.shared.key.book.value

module _ {B C D E F : Type 0} {K : Ghosts B C D E F} where
  -- the seat belongs to this lock
  abbrev pub IsOf : Seat B C D E F K → Lock B C D E F → Type 0
  IsOf seat lock = seat.raw.table_id ≡ lock.table.shared.table_id

  abbrev pub session : Seat B C D E F K → ℕ
  session seat = session_in seat.raw.me.0

  abbrev pub HasScenario : Seat B C D E F K → C → Type 0
  HasScenario seat c = ScenarioIs c seat.raw.me.0

  -- the session's entries
  abbrev pub mine : Seat B C D E F K → List E
  mine seat = mine_in seat.raw.me.0

  -- the history that the session has seen
  abbrev pub seen : Seat B C D E F K → List E
  seen seat = seen_in seat.raw.me.0

  -- the seat's session got this entry: it is the one of its number
  abbrev pub IsReceipt : Seat B C D E F K → E → Type 0
  IsReceipt seat r =
      (K.session_of r ≡ session seat) × (slice_get (mine seat) (K.number_of r - 1) ≡ Some r)

  -- the seat is this session's, and has seen nothing
  abbrev pub IsNew : Lock B C D E F → C → ℕ → Seat B C D E F K → Type 0
  IsNew lock c k seat =
      IsOf seat lock × HasScenario seat c × (session seat ≡ k) × (mine seat ≡ []) × (seen seat ≡ [])

  -- the seats of the sessions from 0 on, in order
  abbrev pub AreNew : Lock B C D E F → C → List (Seat B C D E F K) → Type 0
  AreNew lock c seats =
      (k : ℕ) (d : Seat B C D E F K) → k < length seats → IsNew lock c k (slice_index_or seats k d)

  -- what all these seats know, from the last to the first
  abbrev pub gathered : List (Seat B C D E F K) → List (Part C E)
  gathered [] = []
  gathered (x ∷ xs) = gathered xs ++ x.raw.me.0
