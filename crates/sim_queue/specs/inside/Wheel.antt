-- Keys in lists; the first key is at hand.
use Rattle.std.specs.Prelude.{◌≡◌, ◌≢◌, ◌⊎◌, ◌+◌, ◌^◌, ℕ, ◌<◌, ◌≤◌, nat_lt, if◌then◌else◌, List}
use Rattle.std.specs.Prelude.{Option, None, Some, map, length, slice_index_or}
use Rattle.sim_queue.specs.declared.lists.Node.{Node}
use Rattle.sim_queue.specs.inside.Lists.{node, day, HasKey, IsLists}
use Rattle.sim_queue.specs.inside.Marks.{IsMarked}

-- the due and the serial of a node that has a key
abbrev pub key_of : Node → Option (ℕ × ℕ)
key_of x = if nat_lt x.serial (2 ^ 40) then Some (x.due, x.serial) else None

-- the keys of nodes; the ends of the lists have none
abbrev pub keys_of : List Node → List (Option (ℕ × ℕ))
keys_of nodes = map key_of nodes

-- the key at a place, none past the end: the ends of the lists come before the first place
abbrev pub key_at : List (Option (ℕ × ℕ)) → ℕ → Option (ℕ × ℕ)
key_at keys k = slice_index_or keys (k + 256) None

abbrev pub HasNone : List (Option (ℕ × ℕ)) → Type 0
HasNone keys = (k : ℕ) → key_at keys k ≡ None

abbrev pub HasSame : List (Option (ℕ × ℕ)) → List (Option (ℕ × ℕ)) → Type 0
HasSame old new = (k : ℕ) → key_at new k ≡ key_at old k

abbrev pub HasSameBut : ℕ → List (Option (ℕ × ℕ)) → List (Option (ℕ × ℕ)) → Type 0
HasSameBut p old new = (k : ℕ) → k ≢ p → key_at new k ≡ key_at old k

-- the place p exists and has no key
pub record IsPlace (p : ℕ) (keys : List (Option (ℕ × ℕ))) : Type 0 where
  pub within : p + 256 < length keys
  pub free : key_at keys p ≡ None

-- the first due and serial are not after the second
abbrev pub NotAfter : ℕ → ℕ → ℕ → ℕ → Type 0
NotAfter d s e t = (d < e) ⊎ ((d ≡ e) × (s ≤ t))

-- the key at this place is the first: no other is before it
pub record IsFirst (p : ℕ) (keys : List (Option (ℕ × ℕ))) : Type 0 where
  pub due : ℕ
  pub serial : ℕ
  pub there : key_at keys p ≡ Some (due, serial)
  pub least : (k d s : ℕ) → key_at keys k ≡ Some (d, s) → NotAfter due serial d s

-- a key is due at the floor
pub record IsDue (floor : ℕ) (nodes : List Node) : Type 0 where
  pub place : ℕ
  pub key : HasKey (node nodes place)
  pub due : (node nodes place).due ≡ floor

-- no key is due before the floor
abbrev pub IsFrom : ℕ → List Node → Type 0
IsFrom floor nodes = (i : ℕ) → HasKey (node nodes i) → floor ≤ (node nodes i).due

-- no key is due before the floor, and one is due at it, or it is the greatest time
pub record IsFloor (floor : ℕ) (nodes : List Node) : Type 0 where
  pub from : IsFrom floor nodes
  pub settled : (2 ^ 64 ≤ floor + 1) ⊎ IsDue floor nodes

-- the days of all keys are marked
abbrev pub HasMarks : ℕ → List ℕ → List Node → Type 0
HasMarks width words nodes =
    (i : ℕ) → HasKey (node nodes i) → IsMarked words (day width (node nodes i).due)

-- all dues are below 2 ^ 64
abbrev pub Fits64 : List Node → Type 0
Fits64 nodes = (i : ℕ) → HasKey (node nodes i) → (node nodes i).due < 2 ^ 64

pub record IsWheel (width : ℕ) (nodes : List Node) (words : List ℕ) (floor : ℕ) : Type 0 where
  pub narrow : width ≤ 56
  pub small : length nodes ≤ 4294967295
  pub lists : IsLists width nodes
  pub marked : HasMarks width words nodes
  pub fits : Fits64 nodes
  pub least : IsFloor floor nodes
