-- The shape of a scenario's table: each value is a string, a whole number, or an array of these and
-- of tables of these.
use Rattle.std.specs.Prelude.{◌≡◌, ℕ, List, [], ◌∷◌, Bool, true, false, ◌&&◌, ◌||◌, ◌⊎◌, Some, None}
use Rattle.std.specs.Option.{is_some}
use Rattle.std.specs.List.{list_all}
use Rattle.toml.specs.Data.{Data, Items, Members, no_members, member, as_str, as_integer, as_array}
use Rattle.toml.specs.Data.{as_table, get_member}
use Rattle.sim_scenario.specs.Scenario.{data_of}

-- a string or a whole number
abbrev pub is_plain : Data → Bool
is_plain d = is_some (as_str d) || is_some (as_integer d)

abbrev pub are_plain : Members → Bool
are_plain no_members = true
are_plain (member key d rest) = is_plain d && are_plain rest

-- an element of an array
abbrev pub is_element : Data → Bool
is_element d = elim (as_table d) [ None ↦ is_plain d | Some members ↦ are_plain members ]

-- the value of a key
abbrev pub is_value : Data → Bool
is_value d =
    elim (as_array d) [ None ↦ is_plain d | Some items ↦ list_all is_element (data_of items) ]

abbrev pub is_shallow : Members → Bool
is_shallow no_members = true
is_shallow (member key d rest) = is_value d && is_shallow rest

-- ---- a table of another shape

-- some key has a value that is not plain
pub record HasOther (members : Members) : Type 0 where
  pub key : List ℕ
  pub at : Data
  pub found : get_member key members ≡ Some at
  pub other : is_plain at ≡ false

pub record IsOtherElement (d : Data) : Type 0 where
  pub other : is_element d ≡ false
  pub inside : (members : Members) → as_table d ≡ Some members → HasOther members

abbrev pub HasOtherElement : List Data → Type 0
HasOtherElement [] = ⊥
HasOtherElement (d ∷ more) = IsOtherElement d ⊎ HasOtherElement more

pub record IsOtherValue (d : Data) : Type 0 where
  pub other : is_value d ≡ false
  pub inside : (items : Items) → as_array d ≡ Some items → HasOtherElement (data_of items)

-- some key has a value of another shape
pub record HasOtherValue (doc : Members) : Type 0 where
  pub key : List ℕ
  pub at : Data
  pub found : get_member key doc ≡ Some at
  pub other : IsOtherValue at
