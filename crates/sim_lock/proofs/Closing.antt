-- What the closed table holds, once one seat has taken in all.
use Rattle.std.proofs.Common.{◌≡◌, ◌≢◌, ℕ, ◌-◌, List, [], Option, Some, None, length, sym, ap, ◌∙◌, subst}
use Rattle.std.specs.Prelude.{All, slice_get}
use mathlib.Core.Option.{some, some-injective}
use lib.ListN.{get_elem?}
use Rattle.atomic_table.specs.Table.{Final, Seen}
use Rattle.sim_lock.specs.declared.kept.Kept.{Ghosts}
use Rattle.sim_lock.specs.declared.seat.Seat.{Seat}
use Rattle.sim_lock.specs.declared.rule.Part.{Part}
use Rattle.sim_lock.specs.Entries.{of_session, Begins, HasEntry}
use Rattle.sim_lock.specs.Rule.{Keeps}
use Rattle.sim_lock.specs.Seats.{session, mine, seen, gathered}
use Rattle.sim_lock.proofs.Ends.{closes}
use Rattle.sim_lock.proofs.Gathering.{gathered_long, gathered_idle, gathered_apart, gathered_fits}

module _ {B : Type 0} where
  pub is_the_book : (slots : List (Option B)) (home : Option B) (book got : B) → get_elem? slots 0 ≡ some (Some book) → get_elem? slots 0 ≡ some home → home ≡ Some got → book ≡ got
  is_the_book slots home book got a b is = let e : Some book ≡ home = some-injective (Some book) home (sym a ∙ b) in let d : Some book ≡ Some got = e ∙ is in cc (d)

  pub not_none : (slots : List (Option B)) (home : Option B) (book : B) → get_elem? slots 0 ≡ some (Some book) → get_elem? slots 0 ≡ some home → home ≡ None → ⊥
  not_none slots home book a b is = let e : Some book ≡ home = some-injective (Some book) home (sym a ∙ b) in let d : Some book ≡ None = e ∙ is in absurd (cc (d))

module _ {B C D E F : Type 0} {K : Ghosts B C D E F} (whose : E → ℕ) (scenario : B → C) (entries : B → List E) (c : C) where
  pub record IsEnd (seats : List (Seat B C D E F K)) (book : B) : Type 0 where
    pub scenario_is : scenario book ≡ c
    pub fits : All (λ s. (of_session whose (session s) (entries book) ≡ mine s) × Begins (seen s) (entries book)) seats
    pub others : (k : ℕ) → All (λ s. session s ≢ k) seats → of_session whose k (entries book) ≡ []

  pub ends : (n id : ℕ) (v : List (Part C E)) (words : List ℕ) (slots : List (Option B)) (seats : List (Seat B C D E F K)) → Final (Seen (Keeps whose scenario entries c n) id v) words slots → v ≡ gathered seats → length seats ≡ n
      → (book : B) × (get_elem? slots 0 ≡ some (Some book)) × IsEnd seats book
  ends n id v words slots seats f is long =
      let s = f.0 in
      let at = subst (λ (x : List (Part C E)). get_elem? s.views id ≡ some x) is f.1.1 in
      let whole = closes whose scenario entries c n s id (gathered seats) f.1.0 at (gathered_long seats ∙ long) (gathered_idle seats) in (
        whole.book,
        f.4 0 (Some whole.book) whole.home,
        record {
          scenario_is = whole.scenario_is;
          fits = gathered_fits whose c (entries whole.book) 0 seats whole.fits;
          others = λ k apart. whole.others k (gathered_apart k seats apart);
        },
      )

-- the receipt of a session whose entries are these is an entry of the history
pub has_receipt : {E : Type 0} (whose number_of : E → ℕ) (log mine : List E) (s : ℕ) → of_session whose s log ≡ mine
    → (r : E) → (whose r ≡ s) × (slice_get mine (number_of r - 1) ≡ Some r) → HasEntry whose number_of log r
has_receipt whose number_of log mine s is r h = ap (λ k. slice_get (of_session whose k log) (number_of r - 1)) h.0 ∙ (ap (λ l. slice_get l (number_of r - 1)) is ∙ h.1)
