-- A book shared by sessions.
use Rattle.std.specs.Prelude.{ℕ, ◌≡◌, ◌<◌, List, length, slice_index_or, []}
use Rattle.atomic_table.specs.Seated.{TableId}
use Rattle.sim_events.specs.Scenario.{Scenario}
use Rattle.sim_world.specs.Events.{Rules}
use Rattle.sim_book.specs.declared.Entry.{Entry}
use Rattle.sim_book.specs.Book.{Book}
use Rattle.sim_book.specs.History.{IsLegal}
use Rattle.sim_lock.specs.declared.kept.Kept.{Ghosts}
use Rattle.sim_lock.specs.declared.seat.Seat.{Seat}
use Rattle.sim_lock.specs.Seats.{session, mine, seen, HasScenario}

-- What a contract sees of a shared book: its identity, the number of its sessions, and the scenario
-- of the book with which it was made
pub record Shared : Type 0 where
  pub id : TableId
  pub sessions : ℕ
  pub scenario : Scenario

-- the history is legal: it leads to some book
abbrev pub IsLegalHistory : {State Msg : Type 0} → Rules State Msg → List Entry → Type 0
IsLegalHistory r history = (last : Book) × IsLegal r history last

module _ {B D F : Type 0} {K : Ghosts B Scenario D Entry F} where
  -- the seat belongs to this shared book
  abbrev pub IsAt : Shared → Seat B Scenario D Entry F K → Type 0
  IsAt shared seat = seat.raw.table_id ≡ shared.id

  -- the seat is this session's, and has seen nothing
  abbrev pub IsNew : Shared → ℕ → Seat B Scenario D Entry F K → Type 0
  IsNew shared k seat =
      IsAt shared seat × HasScenario seat shared.scenario × (session seat ≡ k) × (mine seat ≡ [])
      × (seen seat ≡ [])

  -- the seats of the sessions from 0 on, in order
  abbrev pub AreNew : Shared → List (Seat B Scenario D Entry F K) → Type 0
  AreNew shared seats =
      (k : ℕ) (d : Seat B Scenario D Entry F K) → k < length seats
      → IsNew shared k (slice_index_or seats k d)
