-- Numbers that workers draw from one word.
use Rattle.std.specs.Prelude.{ℕ, ◌≡◌, ◌<◌, ◌≤◌, ◌+◌, ◌^◌, ◌==◌, ltb, leb, cond, List, [], ◌∷◌, ◌++◌}
use Rattle.std.specs.Prelude.{length, slice_index}
use mathlib.Core.Option.{some}
use lib.ListN.{get_elem?}
use Rattle.atomic_table.specs.Table.{State, Me, Step}
use Rattle.sim_claims.specs.declared.hand.Hand.{Hand}

-- what a worker with n parts has drawn
abbrev pub hand : ℕ → List ℕ → Hand
hand n xs = record { parts = n; drawn = xs }

-- the sum of f over a list
abbrev pub total : {A : Type 0} → (A → ℕ) → List A → ℕ
total f [] = 0
total f (x ∷ xs) = f x + total f xs

-- how often x occurs in the list
abbrev pub times : ℕ → List ℕ → ℕ
times x xs = total (λ y. cond (y == x) 1 0) xs

-- how many of these numbers are no pieces
abbrev pub past : ℕ → List ℕ → ℕ
past pieces xs = total (λ y. cond (leb pieces y) 1 0) xs

-- 1 if x is below n, else 0
abbrev pub once_below : ℕ → ℕ → ℕ
once_below x n = cond (ltb x n) 1 0

-- The numbers drawn are those below the word, each once. Each part draws at most one number that is
-- no piece
pub record Given (pieces workers : ℕ) (s : State (Unit {0}) Hand) : Type 0 where
  pub room : pieces + workers < 2 ^ 64
  pub word : length s.words ≡ 1
  pub parts : total (λ v. v.parts) s.views ≡ workers
  pub numbers : (x : ℕ) → total (λ v. times x v.drawn) s.views
      ≡ once_below x (slice_index s.words 0)
  pub count : total (λ v. length v.drawn) s.views ≡ slice_index s.words 0
  pub small : slice_index s.words 0 ≤ pieces + total (λ v. past pieces v.drawn) s.views
  pub few : (id : ℕ) (v : Hand) → get_elem? s.views id ≡ some v → past pieces v.drawn ≤ v.parts
  pub idle : (id : ℕ) (v : Hand) → get_elem? s.views id ≡ some v → v.parts ≡ 0 → v.drawn ≡ []

-- the worker drew the old word. The word is at least the count of numbers that the worker had drawn
abbrev pub Draws : Step (Unit {0}) → Me (Unit {0}) Hand → ℕ → Me (Unit {0}) Hand → Type 0
Draws st m r n = (n ≡ (hand m.0.parts (m.0.drawn ++ r ∷ []), m.1)) × (length m.0.drawn ≤ r)
