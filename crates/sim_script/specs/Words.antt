-- The words of a line, and the numbers and names that they write.
use Rattle.std.specs.Prelude.{◌≡◌, ℕ, ◌+◌, ◌-◌, ◌*◌, List, [], ◌∷◌, length, Bool, true, false, ◌&&◌}
use Rattle.std.specs.Prelude.{◌==◌, if◌then◌else◌, All, filter, Option, None, Some, nat_le}
use Rattle.std.specs.Prelude.{slice_index_or}
use Rattle.std.specs.List.{slice_split, list_all, fold, position}
use Rattle.std.specs.Option.{unwrap_or}
use Rattle.std.specs.Str.{bytes_eq}
use Rattle.std.specs.Char.{is_ascii_digit}
use Rattle.sim_scenario.specs.Scenario.{is_name}

abbrev pub Text : Type 0
Text = List ℕ

abbrev pub HasNoSpace : Text → Type 0
HasNoSpace text = All (λ byte. (byte == 32) ≡ false) text

-- the text has at least one byte
abbrev pub is_word : Text → Bool
is_word [] = false
is_word (byte ∷ more) = true

-- the words of a line: the non-empty parts between spaces
abbrev pub words : Text → List Text
words line = filter is_word (slice_split (λ byte. byte == 32) line)

-- the number that decimal digits write
abbrev pub number_from : Text → ℕ
number_from digits = fold (λ value digit. value * 10 + (digit - 48)) 0 digits

-- a number of 1 to `most` decimal digits
unfoldable pub number : ℕ → Text → Option ℕ
number most word =
    if is_word word && (nat_le (length word) most && list_all is_ascii_digit word)
    then Some (number_from word)
    else None

-- the names of the hosts and of the probes, in the order of their numbers
pub record Names : Type 0 where
  pub hosts : List Text
  pub probes : List Text

-- the number of a name, or `absent` if it is not among these names
unfoldable pub named : List Text → ℕ → Text → Option ℕ
named names absent word =
    if is_name word then Some (unwrap_or (position (bytes_eq word) names) absent) else None

abbrev pub name_at : List Text → ℕ → Text
name_at names n = slice_index_or names n []

module _ (names : Names) where
  abbrev pub host : Text → Option ℕ
  host word = named names.hosts 65535 word

  abbrev pub probe : Text → Option ℕ
  probe word = named names.probes 255 word

  -- the name with this number, or an empty text
  abbrev pub host_name : ℕ → Text
  host_name h = name_at names.hosts h

  abbrev pub probe_name : ℕ → Text
  probe_name k = name_at names.probes k
