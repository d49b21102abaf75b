-- The items of an array, each read by a function that may fail.
use Rattle.std.proofs.Common.{◌≡◌, ℕ, ◌+◌, ◌<◌, ◌≤◌, List, [], ◌∷◌, ◌++◌, length, get_or, drop, map, string_bytes, Option, Bor, BTreeMap, String, Vec, Global, Some, None, refl, sym, ap, ◌∙◌, append_assoc}
use Rattle.std.specs.Option.{option_map, option_and_then}
use Rattle.std.proofs.lemmas.List.{drop_more, drop_all, append-nil}
use Rattle.toml.specs.Data.{Data, Items, Members, as_str, as_array, as_table}
use Rattle.toml.specs.View.{view, items_view, array_view, table_view}
use Rattle.toml.specs.declared.value.Value.{Value}
use Rattle.sim_scenario.specs.Scenario.{all_some, data_of, list_of}

module _ {A B : Type 0} (f : A → Option B) where
  -- the items that are read, with those at the end
  abbrev pub with_rest : List B → Option (List B) → Option (List B)
  with_rest done rest = option_map (λ ys. done ++ ys) rest

  pub with_rest-nil : (o : Option (List B)) → o ≡ with_rest [] o
  with_rest-nil None = refl
  with_rest-nil (Some ys) = refl

  moved : (done : List B) (y : B) (o : Option (List B)) → with_rest done (option_map (λ ys. y ∷ ys) o) ≡ with_rest (done ++ y ∷ []) o
  moved done y None = refl
  moved done y (Some ys) = ap Some (sym (append_assoc done (y ∷ []) ys))

  -- one more item is read
  pub read_more : (xs : List A) (i : ℕ) (x : A) (y : B) (done : List B) → i < length xs → x ≡ get_or xs i x → f x ≡ Some y
      → with_rest done (all_some f (drop i xs)) ≡ with_rest (done ++ y ∷ []) (all_some f (drop (i + 1) xs))
  read_more xs i x y done lt at e =
      ap (λ t. with_rest done (all_some f t)) (drop_more xs i x lt)
      ∙ ap (λ z. with_rest done (all_some f (z ∷ drop (i + 1) xs))) (sym at)
      ∙ ap (λ o. with_rest done (option_and_then (λ z. option_map (λ ys. z ∷ ys) (all_some f (drop (i + 1) xs))) o)) e
      ∙ moved done y (all_some f (drop (i + 1) xs))

  -- an item is not read
  pub read_stop : (xs : List A) (i : ℕ) (x : A) (done : List B) → i < length xs → x ≡ get_or xs i x → f x ≡ None
      → with_rest done (all_some f (drop i xs)) ≡ None
  read_stop xs i x done lt at e =
      ap (λ t. with_rest done (all_some f t)) (drop_more xs i x lt)
      ∙ ap (λ z. with_rest done (all_some f (z ∷ drop (i + 1) xs))) (sym at)
      ∙ ap (λ o. with_rest done (option_and_then (λ z. option_map (λ ys. z ∷ ys) (all_some f (drop (i + 1) xs))) o)) e

  -- all items are read
  pub read_all : (xs : List A) (i : ℕ) (done : List B) → length xs ≤ i → with_rest done (all_some f (drop i xs)) ≡ Some done
  read_all xs i done past = ap (λ t. with_rest done (all_some f t)) (drop_all i xs past) ∙ ap Some (append-nil done)

-- the items of a document's array are those of the program's
pub all_some-items_view : {B : Type 0} (f : Data → Option B) (vs : List Value) → all_some f (data_of (items_view vs)) ≡ all_some (λ v. f (view v)) vs
all_some-items_view f [] = refl
all_some-items_view f (v ∷ vs) = ap (λ o. option_and_then (λ y. option_map (λ ys. y ∷ ys) o) (f (view v))) (all_some-items_view f vs)

-- the text and the table of a value
abbrev pub text_of : Value → Option (List ℕ)
text_of v = as_str (view v)

abbrev pub table_of : Value → Option Members
table_of v = as_table (view v)

-- a table behind a reference, as `tables` gives it
abbrev pub TableRef : Type 0
TableRef = Bor (BTreeMap (String Global) Value)

abbrev pub members_of_ref : TableRef → Members
members_of_ref t = table_view t.now

-- a value behind a reference, and the names of some texts
abbrev pub data_of_ref : Bor Value → Data
data_of_ref v = view v.now

abbrev pub names_of : Vec (String Global) Global → List (List ℕ)
names_of texts = map string_bytes texts.items

-- the items of an array of the program are those of the document's
pub list_of-array : {B : Type 0} (f : Data → Option B) (d : Data) (vs : List Value) → as_array d ≡ Some (items_view vs) → list_of f d ≡ all_some (λ v. f (view v)) vs
list_of-array f d vs e = ap (option_and_then (λ items. all_some f (data_of items))) e ∙ all_some-items_view f vs

abbrev pub items_of_ref : Bor (Vec Value Global) → Items
items_of_ref v = array_view v.now

abbrev pub members_of_refs : Vec TableRef Global → List Members
members_of_refs tables = map members_of_ref tables.items
