-- A table with another value at a key.
use Rattle.std.proofs.Common.{◌≡◌, ℕ, List, [], ◌∷◌, Some, None, Bool, String, Global, string_bytes, nat_cmp, refl, inl, inr}
use Rattle.std.proofs.lemmas.Bool.{cases_Bool}
use Rattle.std.specs.Cmp.Lexicographic.{slice_cmp}
use Rattle.std.specs.BTreeMap.{is_at}
use Rattle.std.specs.Map.{lookup, set_value}
use Rattle.toml.specs.Data.{Data}
use Rattle.toml.specs.View.{view, members_view}
use Rattle.toml.specs.declared.value.Value.{Value}
use Rattle.sim_reseed.specs.Numbered.{with_value}

abbrev pub Entry : Type 0
Entry = String Global × Value

-- the test by which a map finds a key
abbrev pub is_key : List ℕ → String Global → Bool
is_key key = is_at (λ k. slice_cmp nat_cmp key (string_bytes k))

-- what writing through the map leaves
pub with_value-written : (key : List ℕ) (w : Value) (es : List Entry) → members_view (set_value (is_key key) es w) ≡ with_value key (view w) (members_view es)
with_value-written key w [] = refl
with_value-written key w (e ∷ es) =
    elim (cases_Bool (is_key key e.0)) [
      | inl same ↦ rw same
      | inr other ↦ rw (other, with_value-written key w es)
    ]

-- a key that the map lacks
pub with_value-absent : (key : List ℕ) (d : Data) (es : List Entry) → lookup (is_key key) es ≡ None → with_value key d (members_view es) ≡ members_view es
with_value-absent key d [] h = refl
with_value-absent key d (e ∷ es) h =
    elim (cases_Bool (is_key key e.0)) [
      | inl same ↦ let wrong : Some e.1 ≡ None = rw same at h in cc
      | inr other ↦ let more : lookup (is_key key) es ≡ None = rw other at h in rw (other, with_value-absent key d es more)
    ]
