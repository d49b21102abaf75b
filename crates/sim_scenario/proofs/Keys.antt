-- The keys of a table, one after the other.
use Rattle.std.proofs.Common.{◌≡◌, ℕ, List, [], ◌∷◌, ◌||◌, map, refl, sym, ◌∙◌, ap, cond, true, false, Bor, Option, Some, None, String, Global, string_bytes}
use Rattle.std.specs.List.{list_any}
use Rattle.std.specs.Str.{bytes_eq}
use Rattle.std.proofs.lemmas.Map.Text.{is_eq-slice_cmp}
use Rattle.toml.specs.Data.{same_key}
use Rattle.toml.specs.View.{members_view}
use Rattle.toml.specs.declared.value.Value.{Value}
use Rattle.sim_scenario.specs.Scenario.{is_known, unknown_key}

abbrev pub Entry : Type 0
Entry = String Global × Value

pub same_key-bytes_eq : (xs ys : List ℕ) → same_key xs ys ≡ bytes_eq xs ys
same_key-bytes_eq xs ys = is_eq-slice_cmp xs ys

-- the known keys as references
pub is_known-refs : (key : List ℕ) (ks : List (Bor (List ℕ))) → list_any (λ (k : Bor (List ℕ)). bytes_eq key k.now) ks ≡ is_known (map (λ k. k.now) ks) key
is_known-refs key [] = refl
is_known-refs key (k ∷ ks) = ap (λ b. b || list_any (λ (x : Bor (List ℕ)). bytes_eq key x.now) ks) (sym (same_key-bytes_eq key k.now)) ∙ ap (λ b. same_key key k.now || b) (is_known-refs key ks)

pub known_here : (known : List (List ℕ)) (s t : List Entry) (e : Entry) → s ≡ e ∷ t → is_known known (string_bytes e.0) ≡ true → unknown_key known (members_view s) ≡ unknown_key known (members_view t)
known_here known s t e h k = ap (λ (es : List Entry). unknown_key known (members_view es)) h
    ∙ ap (λ b. cond {A = Option (List ℕ)} b (unknown_key known (members_view t)) (Some (string_bytes e.0))) k

pub unknown_here : (known : List (List ℕ)) (s t : List Entry) (e : Entry) → s ≡ e ∷ t → is_known known (string_bytes e.0) ≡ false → unknown_key known (members_view s) ≡ Some (string_bytes e.0)
unknown_here known s t e h k = ap (λ (es : List Entry). unknown_key known (members_view es)) h
    ∙ ap (λ b. cond {A = Option (List ℕ)} b (unknown_key known (members_view t)) (Some (string_bytes e.0))) k

pub none_left : (known : List (List ℕ)) (s : List Entry) → s ≡ [] → unknown_key known (members_view s) ≡ None
none_left known s h = ap (λ (es : List Entry). unknown_key known (members_view es)) h
