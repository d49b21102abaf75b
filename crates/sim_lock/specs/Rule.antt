-- What the sessions know of the history of the book, and what each step of the table changes.
use Rattle.std.specs.Prelude.{ℕ, zero, suc, ◌≡◌, ◌≢◌, ◌<◌, ◌≤◌, ◌+◌, ◌==◌, Bool, true, false, cond}
use Rattle.std.specs.Prelude.{List, [], ◌∷◌, length, slice_index, Option, Some}
use mathlib.Core.Option.{some}
use lib.ListN.{get_elem?}
use Rattle.atomic_table.specs.Table.{State, Me, Step}
use Rattle.sim_lock.specs.declared.rule.Part.{Part}
use Rattle.sim_lock.specs.Entries.{of_session, Begins}

-- the sum of f over a list
abbrev pub total : {A : Type 0} → (A → ℕ) → List A → ℕ
total f [] = 0
total f (x ∷ xs) = f x + total f xs

abbrev pub Each : {A : Type 0} → (A → Type 0) → List A → Type 0
Each P [] = Unit {0}
Each P (x ∷ xs) = P x × Each P xs

module _ {C E : Type 0} where
  -- the part of a session: its number, the scenario, its entries, the history it has seen, and
  -- whether it has the book
  abbrev pub part : ℕ → C → List E → List E → Bool → Part C E
  part s c m n h = record { session = s; scenario = c; mine = m; seen = n; holds = h }

  -- the parts of k sessions, from number `from` on, that have seen nothing
  abbrev pub fresh : C → ℕ → ℕ → List (Part C E)
  fresh c from zero = []
  fresh c from (suc k) = part from c [] [] false ∷ fresh c (suc from) k

  -- 1 for a part of this session, else 0
  abbrev pub sits : ℕ → Part C E → ℕ
  sits s p = cond (p.session == s) 1 0

  -- 1 for a part that has the book, else 0
  abbrev pub has : Part C E → ℕ
  has p = cond p.holds 1 0

  -- the session, the entries, the history seen and whether it has the book, of the first part
  abbrev pub session_in : List (Part C E) → ℕ
  session_in [] = 0
  session_in (p ∷ ps) = p.session

  abbrev pub mine_in : List (Part C E) → List E
  mine_in [] = []
  mine_in (p ∷ ps) = p.mine

  abbrev pub seen_in : List (Part C E) → List E
  seen_in [] = []
  seen_in (p ∷ ps) = p.seen

  abbrev pub holds_in : List (Part C E) → Bool
  holds_in [] = false
  holds_in (p ∷ ps) = p.holds

  -- the scenario of the first part, if there is one, is c
  abbrev pub ScenarioIs : C → List (Part C E) → Type 0
  ScenarioIs c [] = Unit {0}
  ScenarioIs c (p ∷ ps) = c ≡ p.scenario

  -- the first part once it took the book, which has this history
  abbrev pub took : List (Part C E) → List E → List (Part C E)
  took [] log = []
  took (p ∷ ps) log = part p.session p.scenario p.mine log true ∷ ps

  -- the first part alone, and the other parts
  abbrev pub first_of : List (Part C E) → List (Part C E)
  first_of [] = []
  first_of (p ∷ ps) = p ∷ []

  abbrev pub rest_of : List (Part C E) → List (Part C E)
  rest_of [] = []
  rest_of (p ∷ ps) = ps

module _ {C E : Type 0} (session_of : E → ℕ) where
  -- The rule for one part: its entries are all entries of its session, and the history begins with
  -- what it has seen. If it has the book, the word names its session and it has seen the whole
  -- history
  abbrev pub Fits : C → List E → ℕ → Part C E → Type 0
  Fits c log word p =
      (p.scenario ≡ c) × (of_session session_of p.session log ≡ p.mine) × Begins p.seen log
      × (p.holds ≡ true → (word ≡ suc p.session) × (p.seen ≡ log))

  -- the first part once it gave the book back with this history
  abbrev pub gave : List (Part C E) → List E → List (Part C E)
  gave [] log = []
  gave (p ∷ ps) log = part p.session p.scenario (of_session session_of p.session log) log false ∷ ps

  module _ {B : Type 0} (scenario : B → C) (entries : B → List E) where
    -- The history fits each part, each session has one part, and no other session has an entry. If
    -- the word is 0, the book is at home with that history; else a part has it
    pub record Keeps (c : C) (sessions : ℕ) (s : State (Option B) (List (Part C E))) : Type 0 where
      pub log : List E
      pub word : length s.words ≡ 1
      pub home : slice_index s.words 0 ≡ 0 → (b : B) × (get_elem? s.homes 0 ≡ some (some (Some b)))
          × (scenario b ≡ c) × (entries b ≡ log)
      pub out : slice_index s.words 0 ≢ 0 → 0 < total (total has) s.views
      pub fits : (id : ℕ) (v : List (Part C E)) → get_elem? s.views id ≡ some v
          → Each (Fits c log (slice_index s.words 0)) v
      pub one : (k : ℕ) → k < sessions → total (total (sits k)) s.views ≡ 1
      pub others : (k : ℕ) → sessions ≤ k → (total (total (sits k)) s.views ≡ 0)
          × (of_session session_of k log ≡ [])
      pub all : total length s.views ≡ sessions

    -- the seat found the book: it has it now, and has seen its history
    abbrev pub Found : Me (Option B) (List (Part C E)) → Me (Option B) (List (Part C E)) → Type 0
    Found m n =
        (b : B) × (n ≡ (took m.0 (entries b), (0, Some b) ∷ m.1))
        × ScenarioIs (scenario b) m.0 × (of_session session_of (session_in m.0) (entries b)
        ≡ mine_in m.0) × Begins (seen_in m.0) (entries b)

    -- a take returns the old word: if it was 0 the seat found the book, else nothing changed
    abbrev pub Takes : Step (Option B) → Me (Option B) (List (Part C E)) → ℕ
        → Me (Option B) (List (Part C E)) → Type 0
    Takes st m r n = (r ≡ 0 → Found m n) × (r ≢ 0 → n ≡ m)

    -- a give puts the book back home
    abbrev pub Gives : Step (Option B) → Me (Option B) (List (Part C E)) → ℕ
        → Me (Option B) (List (Part C E)) → Type 0
    Gives st m r n = (b : B) → m.1 ≡ (0, Some b) ∷ [] → n ≡ (gave m.0 (entries b), [])
