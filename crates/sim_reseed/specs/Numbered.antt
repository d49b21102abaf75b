-- The scenario of a numbered run.
use Rattle.std.specs.Prelude.{◌≡◌, ℕ, List, ◌++◌, take, codes, true, Some, Result, Ok, Err}
use Rattle.std.specs.Prelude.{if◌then◌else◌}
use Rattle.std.specs.Int.{w64, to_le_bytes}
use Rattle.hex.specs.Hex.{decode_of, encode_lower}
use Rattle.toml.specs.Data.{Data, Members, no_members, member, same_key, get_member, string}
use Rattle.sim_scenario.specs.Scenario.{ScenarioText, Fault, is_seed}

-- The number is in the last eight of the seed's 32 bytes, low byte first.
abbrev pub numbered_seed : ℕ → List ℕ → List ℕ
numbered_seed i seed = take 24 seed ++ to_le_bytes w64 i

-- the same scenario with the seed of run number i
abbrev pub numbered : ℕ → ScenarioText → ScenarioText
numbered i s = record s { seed = numbered_seed i s.seed }

-- the result of reading the scenario with that seed; a fault is unchanged
abbrev pub numbered_reading : ℕ → Result ScenarioText Fault → Result ScenarioText Fault
numbered_reading i (Ok s) = Ok (numbered i s)
numbered_reading i (Err fault) = Err fault

-- the members with another value for a key
abbrev pub with_value : List ℕ → Data → Members → Members
with_value key d no_members = no_members
with_value key d (member k e rest) =
    if same_key key k then member k d rest else member k e (with_value key d rest)

-- the members with another seed
abbrev pub with_seed : List ℕ → Members → Members
with_seed seed doc = with_value (codes "seed") (string (encode_lower seed)) doc

-- the document's seed is 64 hexadecimal digits, which encode these bytes
pub record HasSeed (doc : Members) (seed : List ℕ) : Type 0 where
  pub digits : List ℕ
  pub stands : get_member (codes "seed") doc ≡ Some (string digits)
  pub sound : is_seed digits ≡ true
  pub bytes : decode_of digits ≡ Ok seed
