-- The hosts by their names: a map from each name to a number, in the order of the numbers.
use Rattle.std.specs.Prelude.{◌≡◌, ℕ, List, map, string_bytes, String}
use Rattle.std.specs.declared.alloc.Global.{Global}
use Rattle.std.specs.List.{enumerate_from}
use Rattle.indexmap.specs.IndexMap.{IndexMap}

module _ {S : Type 0} where
  -- the names, in the order of the map
  abbrev pub names_in : IndexMap (String Global) ℕ S → List (List ℕ)
  names_in hosts = map (λ e. string_bytes e.0) hosts.entries

  -- the number of each name is its place
  abbrev pub IsNumbered : IndexMap (String Global) ℕ S → Type 0
  IsNumbered hosts =
      map (λ e. (e.1, string_bytes e.0)) hosts.entries ≡ enumerate_from 0 (names_in hosts)
