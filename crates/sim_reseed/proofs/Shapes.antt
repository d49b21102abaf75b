-- The shape of a table, value by value.
use Rattle.std.proofs.Common.{◌≡◌, ℕ, zero, suc, ◌<◌, List, [], ◌∷◌, ◌++◌, length, get_or, string_bytes, subst, inl, inr, append_assoc, arith, ◌&&◌, Option, Some, None, true, false, refl, sym, ap, ◌∙◌}
use Rattle.std.specs.Prelude.{All}
use Rattle.std.specs.Option.{option_map}
use Rattle.std.specs.List.{list_all}
use Rattle.std.specs.Map.{lookup}
use Rattle.std.proofs.lemmas.List.Elements.{All-head, All-tail}
use Rattle.toml.proofs.Views.{view-lookup}
use Rattle.toml.specs.Data.{Data, Items, as_array, get_member}
use Rattle.toml.specs.View.{view, items_view, members_view}
use Rattle.toml.specs.declared.value.Value.{Value}
use Rattle.sim_scenario.specs.Scenario.{data_of}
use Rattle.sim_reseed.specs.Shape.{is_plain, are_plain, is_element, is_value, is_shallow, IsOtherElement, HasOtherElement, IsOtherValue}
use Rattle.sim_reseed.proofs.Values.{Entry, is_key}

pub plain_here : (s t : List Entry) (e : Entry) → s ≡ e ∷ t → is_plain (view e.1) ≡ true → are_plain (members_view s) ≡ are_plain (members_view t)
plain_here s t e h p = ap (λ (es : List Entry). are_plain (members_view es)) h ∙ ap (λ b. b && are_plain (members_view t)) p

pub not_plain_here : (s t : List Entry) (e : Entry) → s ≡ e ∷ t → is_plain (view e.1) ≡ false → are_plain (members_view s) ≡ false
not_plain_here s t e h p = ap (λ (es : List Entry). are_plain (members_view es)) h ∙ ap (λ b. b && are_plain (members_view t)) p

pub value_here : (s t : List Entry) (e : Entry) → s ≡ e ∷ t → is_value (view e.1) ≡ true → is_shallow (members_view s) ≡ is_shallow (members_view t)
value_here s t e h p = ap (λ (es : List Entry). is_shallow (members_view es)) h ∙ ap (λ b. b && is_shallow (members_view t)) p

pub no_value_here : (s t : List Entry) (e : Entry) → s ≡ e ∷ t → is_value (view e.1) ≡ false → is_shallow (members_view s) ≡ false
no_value_here s t e h p = ap (λ (es : List Entry). is_shallow (members_view es)) h ∙ ap (λ b. b && is_shallow (members_view t)) p

elements-view : (vs : List Value) → list_all is_element (data_of (items_view vs)) ≡ list_all (λ v. is_element (view v)) vs
elements-view [] = refl
elements-view (v ∷ vs) = ap (λ b. is_element (view v) && b) (elements-view vs)

-- an array
pub is_value-array : (d : Data) (vs : List Value) → as_array d ≡ Some (items_view vs) → is_value d ≡ list_all (λ v. is_element (view v)) vs
is_value-array d vs h = ap (λ (o : Option Items). elim o [ None ↦ is_plain d | Some items ↦ list_all is_element (data_of items) ]) h ∙ elements-view vs

-- ---- what is found where a table has another shape

-- the entries that are left stand at the end
pub next_end : (entries s t : List Entry) (e : Entry) → s ≡ e ∷ t → (done : List Entry) × (entries ≡ done ++ s) → (done : List Entry) × (entries ≡ done ++ t)
next_end entries s t e h p = (p.0 ++ e ∷ [], p.1 ∙ ap (λ rest. p.0 ++ rest) h ∙ sym (append_assoc p.0 (e ∷ []) t))

-- what a map finds at the key of each entry
abbrev pub IsFound : List Entry → Entry → Type 0
IsFound entries e = lookup (is_key (string_bytes e.0)) entries ≡ Some e.1

found_in : (entries done t : List Entry) (e : Entry) → All (IsFound entries) (done ++ e ∷ t) → IsFound entries e
found_in entries [] t e h = All-head (IsFound entries) e t h
found_in entries (x ∷ done) t e h = found_in entries done t e (All-tail (IsFound entries) x (done ++ e ∷ t) h)

pub entry_found : (entries s t : List Entry) (e : Entry) → s ≡ e ∷ t → (done : List Entry) × (entries ≡ done ++ s) → All (IsFound entries) entries
    → get_member (string_bytes e.0) (members_view entries) ≡ Some (view e.1)
entry_found entries s t e h p each =
    let at : entries ≡ p.0 ++ e ∷ t = p.1 ∙ ap (λ rest. p.0 ++ rest) h in
    let P : List Entry → Type 0 = All (IsFound entries) in
    sym (view-lookup (string_bytes e.0) entries) ∙ ap (option_map view) (found_in entries p.0 t e (subst P at each))

-- an element of an array
pub element_at : (vs : List Value) (i : ℕ) (v : Value) → i < length vs → v ≡ get_or vs i v → IsOtherElement (view v) → HasOtherElement (data_of (items_view vs))
element_at [] i v below e o = absurd (omega arith)
element_at (x ∷ vs) zero v below e o = let P : Value → Type 0 = λ w. IsOtherElement (view w) in inl (subst P e o)
element_at (x ∷ vs) (suc i) v below e o = inr (element_at vs i v (omega arith) e o)

-- an array with such an element
pub other_array : (d : Data) (vs : List Value) → as_array d ≡ Some (items_view vs) → is_value d ≡ false → HasOtherElement (data_of (items_view vs)) → IsOtherValue d
other_array d vs h other o = record {
  other = other;
  inside = λ items e.
      let same : items_view vs ≡ items = cc in
      let P : Items → Type 0 = λ it. HasOtherElement (data_of it) in
      subst P same o;
}
