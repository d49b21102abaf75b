-- Keys in lists by their days: nodes in rings, each of which begins and ends at one of the first
-- 256 nodes.
use Rattle.std.specs.Prelude.{◌≡◌, ◌≢◌, ◌⊎◌, ◌+◌, ◌*◌, ◌^◌, ◌/◌, ◌%◌, ℕ, ◌<◌, ◌≤◌, List, length}
use Rattle.std.specs.Prelude.{slice_index_or}
use Rattle.sim_queue.specs.declared.lists.Node.{Node}
use Rattle.sim_queue.specs.declared.lists.Lists.{Lists}

-- the node at a place, or one without a key past the end
abbrev pub no_node : Node
no_node = record { due = 0; serial = 18446744073709551615; before = 0; after = 0 }

abbrev pub node : List Node → ℕ → Node
node nodes i = slice_index_or nodes i no_node

-- a node has a key: no serial of an item is 2 ^ 40 or more
abbrev pub HasKey : Node → Type 0
HasKey x = x.serial < 2 ^ 40

-- the day of a due, and the list of a node
abbrev pub day : ℕ → ℕ → ℕ
day width due = due / 2 ^ width

abbrev pub list_of : ℕ → Node → ℕ
list_of width x = day width x.due % 256

-- a number that orders keys: by their dues, then by their serials
abbrev pub key_order : ℕ → ℕ → ℕ
key_order due serial = due * 2 ^ 40 + serial

abbrev pub order_of : Node → ℕ
order_of x = key_order x.due x.serial

-- the end of a list: a node without a key
abbrev pub end_of : ℕ → ℕ → Node
end_of width i =
    record { due = i * 2 ^ width; serial = 18446744073709551615; before = i; after = i }

-- the node i is in a list: it is the end of one, or has a key
abbrev pub IsLinked : List Node → ℕ → Type 0
IsLinked nodes i = ((i < 256) × (i < length nodes)) ⊎ HasKey (node nodes i)

-- the node before the node i is in the same list, leads to it, and has a lesser key if both have
-- keys
pub record IsBehind (width : ℕ) (nodes : List Node) (i : ℕ) : Type 0 where
  pub linked : IsLinked nodes (node nodes i).before
  pub back : (node nodes (node nodes i).before).after ≡ i
  pub list : list_of width (node nodes (node nodes i).before) ≡ list_of width (node nodes i)
  pub rising : 256 ≤ i → 256 ≤ (node nodes i).before → order_of (node nodes (node nodes i).before)
      < order_of (node nodes i)

-- the node after the node i is in a list, and leads back to it
pub record IsAhead (nodes : List Node) (i : ℕ) : Type 0 where
  pub linked : IsLinked nodes (node nodes i).after
  pub forth : (node nodes (node nodes i).after).before ≡ i

-- the first 256 nodes are the ends of the lists, and each node of a list is linked to its
-- neighbours
pub record IsLists (width : ℕ) (nodes : List Node) : Type 0 where
  pub ends : (i : ℕ) → i < 256 → 2 ^ 40 ≤ (node nodes i).serial
  pub lists : (i : ℕ) → i < 256 → i < length nodes → list_of width (node nodes i) ≡ i
  pub behind : (i : ℕ) → IsLinked nodes i → IsBehind width nodes i
  pub ahead : (i : ℕ) → IsLinked nodes i → IsAhead nodes i

-- the place p holds a node without a key that is no end of a list
pub record IsFree (p : ℕ) (nodes : List Node) : Type 0 where
  pub from : 256 ≤ p
  pub within : p < length nodes
  pub free : 2 ^ 40 ≤ (node nodes p).serial

-- the nodes other than the ends are the same
abbrev pub IsSame : List Node → List Node → Type 0
IsSame old new = (i : ℕ) → 256 ≤ i → node new i ≡ node old i

-- the lists have the same keys at the same places; there may be ends and free nodes that were not
pub record KeepsKeys (old new : Lists) : Type 0 where
  pub width : new.width ≡ old.width
  pub lists : IsLists new.width new.nodes.items
  pub same : IsSame old.nodes.items new.nodes.items
  pub size : length old.nodes.items ≤ 4294967295 → length new.nodes.items ≤ 4294967295

-- no node has a key
abbrev pub HasNoKeys : List Node → Type 0
HasNoKeys nodes = (i : ℕ) → 2 ^ 40 ≤ (node nodes i).serial

-- a key belongs right after the node b
pub record IsSpot (width due serial b : ℕ) (nodes : List Node) : Type 0 where
  pub linked : IsLinked nodes b
  pub list : list_of width (node nodes b) ≡ day width due % 256
  pub above : 256 ≤ b → order_of (node nodes b) < key_order due serial
  pub below : 256 ≤ (node nodes b).after → key_order due serial
      < order_of (node nodes (node nodes b).after)

-- all other nodes keep their keys
abbrev pub KeepsOthers : ℕ → List Node → List Node → Type 0
KeepsOthers p old new =
    (i : ℕ) → i ≢ p → ((node new i).due ≡ (node old i).due)
    × ((node new i).serial ≡ (node old i).serial)

-- the list has no key
abbrev pub IsEmptyList : ℕ → ℕ → List Node → Type 0
IsEmptyList width list nodes = (i : ℕ) → HasKey (node nodes i) → list_of width (node nodes i) ≢ list
