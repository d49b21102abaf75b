-- The item of the least serial whose body passes a test, found list by list.
use Rattle.std.specs.Prelude.{◌≡◌, ℕ, ◌+◌, ◌≤◌, nat_lt, Bool, List, Option, None, Some}
use Rattle.std.specs.Prelude.{MatchOption, IsSome, if◌then◌else◌, min}
use Rattle.sim_queue.specs.declared.lists.Node.{Node}
use Rattle.sim_queue.specs.inside.Lists.{node, list_of}
use Rattle.sim_queue.specs.inside.Wheel.{key_at, keys_of}
use Rattle.sim_queue.specs.inside.Sparse.{body_at}

-- each key has a body
abbrev pub HasBodies : {B : Type 0} → List (Option (ℕ × ℕ)) → List (Option B) → Type 0
HasBodies keys bodies = (k : ℕ) → IsSome (key_at keys k) → IsSome (body_at bodies k)

-- the lesser of two numbers, or the one that there is
abbrev pub lesser : Option ℕ → Option ℕ → Option ℕ
lesser None other = other
lesser (Some x) None = Some x
lesser (Some x) (Some y) = Some (min x y)

module _ {B : Type 0} (p : B → Bool) where
  -- the serial of a key, if it is not below `from` and p accepts the body
  abbrev pub taken_serial : ℕ → Option (ℕ × ℕ) → Option B → Option ℕ
  taken_serial from None body = None
  taken_serial from (Some key) None = None
  taken_serial from (Some key) (Some body) =
      if nat_lt key.1 from then None else (if p body then Some key.1 else None)

  -- the serial is found at some place
  pub record IsTakenAt (keys : List (Option (ℕ × ℕ))) (bodies : List (Option B))
      (from serial : ℕ) : Type 0 where
    pub place : ℕ
    pub there : taken_serial from (key_at keys place) (body_at bodies place) ≡ Some serial

  -- the result is the least serial found at a place
  pub record IsLeastTaken (keys : List (Option (ℕ × ℕ))) (bodies : List (Option B)) (from : ℕ)
      (result : Option ℕ) : Type 0 where
    pub found : (s : ℕ) → result ≡ Some s → IsTakenAt keys bodies from s
    pub least : (s : ℕ) → IsTakenAt keys bodies from s → MatchOption result ⊥ (λ i. i ≤ s)

  -- the result is the least serial found at a place of which P holds
  pub record IsLeastAmong (P : ℕ → Type 0) (keys : List (Option (ℕ × ℕ)))
      (bodies : List (Option B)) (from : ℕ) (result : Option ℕ) : Type 0 where
    pub found : (s : ℕ) → result ≡ Some s → IsTakenAt keys bodies from s
    pub least : (k s : ℕ) → P k → taken_serial from (key_at keys k) (body_at bodies k) ≡ Some s
        → MatchOption result ⊥ (λ i. i ≤ s)

  -- the result is the least serial found in a list
  abbrev pub IsLeastIn : ℕ → List Node → ℕ → List (Option B) → ℕ → Option ℕ → Type 0
  IsLeastIn width nodes list bodies from result =
      IsLeastAmong (λ k. list_of width (node nodes (k + 256)) ≡ list) (keys_of nodes) bodies from
      result
