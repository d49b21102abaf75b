-- The servers and the clients of a document, from the value at their key.
use Rattle.std.proofs.Common.{◌≡◌, ℕ, ◌==◌, Bool, true, false, cond, List, [], ◌∷◌, ◌++◌, length, map, Option, Some, None, Result, Err, String, Global, string_bytes, refl, sym, ap, ◌∙◌, codes, arith}
use Rattle.std.specs.Prelude.{if◌then◌else◌}
use Rattle.std.specs.Option.{unwrap_or, option_and_then}
use Rattle.std.specs.List.{list_all}
use Rattle.std.proofs.lemmas.Bool.Decides.{nat_tests}
use Rattle.std.proofs.lemmas.List.Folds.{list_all-map}
use Rattle.toml.specs.Data.{Data, Members, get_member, as_str, as_table}
use Rattle.sim_scenario.specs.Scenario.{Fault, keyed, list_of, list_fault, names_fault, clients_fault, is_name, is_empty, out_of_range, wrong_type, text_at, whole}
use Rattle.sim_scenario.specs.Parts.{checked, servers_of, clients_of, listed}
use Rattle.sim_scenario.proofs.Clients.{listed-checked}

is_empty-map : {A B : Type 0} (f : A → B) (xs : List A) → is_empty (map f xs) ≡ (length xs == 0)
is_empty-map f [] = refl
is_empty-map f (x ∷ xs) = grind (arith, nat_tests)

-- the value at the key is no array of texts
pub servers_untyped : (doc : Members) (d : Data) → get_member (codes "servers") doc ≡ Some d → list_of as_str d ≡ None → servers_of doc ≡ Err (record { number = 5; key = codes "servers" })
unfolding servers_of
servers_untyped doc d h e =
    ap (λ o. checked (keyed (codes "servers") (list_fault names_fault as_str o)) (unwrap_or (option_and_then (list_of as_str) o) [])) h
    ∙ ap (λ (o : Option (List (List ℕ))). checked (keyed (codes "servers") (elim o [ None ↦ Some wrong_type | Some xs ↦ if is_empty xs then Some out_of_range else names_fault xs ])) (unwrap_or o [])) e

-- it is an array of these texts
pub servers_said : (doc : Members) (d : Data) (texts : List (String Global)) (empty good : Bool) → get_member (codes "servers") doc ≡ Some d → list_of as_str d ≡ Some (map string_bytes texts)
    → (length texts == 0) ≡ empty → list_all (λ t. is_name (string_bytes t)) texts ≡ good
    → servers_of doc ≡ checked (keyed (codes "servers") (if empty then Some 9 else if good then None else Some 10)) (map string_bytes texts)
unfolding servers_of
servers_said doc d texts empty good h e size names =
    ap (λ o. checked (keyed (codes "servers") (list_fault names_fault as_str o)) (unwrap_or (option_and_then (list_of as_str) o) [])) h
    ∙ ap (λ (o : Option (List (List ℕ))). checked (keyed (codes "servers") (elim o [ None ↦ Some wrong_type | Some xs ↦ if is_empty xs then Some out_of_range else names_fault xs ])) (unwrap_or o [])) e
    ∙ ap (λ b. checked (keyed (codes "servers") (if b then Some 9 else names_fault (map string_bytes texts))) (map string_bytes texts)) (is_empty-map string_bytes texts ∙ size)
    ∙ ap (λ b. checked (keyed (codes "servers") (if empty then Some 9 else if b then None else Some 10)) (map string_bytes texts)) (list_all-map is_name string_bytes texts ∙ names)

abbrev both : List (List ℕ) → List ℕ → List (List ℕ) × List ℕ
both names operations = (names, operations)

abbrev pub with_tables : List (List ℕ) → List Members → Result (List (List ℕ) × List ℕ) Fault
with_tables names tables = if is_empty tables then Err (record { number = 9; key = codes "client" }) else listed names [] tables

-- there is no value at the key
pub clients_missing : (names : List (List ℕ)) (doc : Members) → get_member (codes "client") doc ≡ None → clients_of names doc ≡ Err (record { number = 4; key = codes "client" })
unfolding clients_of
clients_missing names doc h =
    ap (λ o. checked (keyed (codes "client") (list_fault clients_fault as_table o)) (both (names ++ map (text_at (codes "name")) (unwrap_or (option_and_then (list_of as_table) o) [])) (map (whole (codes "ops")) (unwrap_or (option_and_then (list_of as_table) o) [])))) h

-- the value at the key is no array of tables
pub clients_untyped : (names : List (List ℕ)) (doc : Members) (d : Data) → get_member (codes "client") doc ≡ Some d → list_of as_table d ≡ None
    → clients_of names doc ≡ Err (record { number = 5; key = codes "client" })
unfolding clients_of
clients_untyped names doc d h e =
    ap (λ o. checked (keyed (codes "client") (list_fault clients_fault as_table o)) (both (names ++ map (text_at (codes "name")) (unwrap_or (option_and_then (list_of as_table) o) [])) (map (whole (codes "ops")) (unwrap_or (option_and_then (list_of as_table) o) [])))) h
    ∙ ap (λ (o : Option (List Members)). checked (keyed (codes "client") (elim o [ None ↦ Some wrong_type | Some xs ↦ if is_empty xs then Some out_of_range else clients_fault xs ])) (both (names ++ map (text_at (codes "name")) (unwrap_or o [])) (map (whole (codes "ops")) (unwrap_or o [])))) e

-- it is an array of these tables
pub clients_said : (names : List (List ℕ)) (doc : Members) (d : Data) (tables : List Members) → get_member (codes "client") doc ≡ Some d → list_of as_table d ≡ Some tables
    → clients_of names doc ≡ with_tables names tables
unfolding clients_of
clients_said names doc d tables h e =
    ap (λ o. checked (keyed (codes "client") (list_fault clients_fault as_table o)) (both (names ++ map (text_at (codes "name")) (unwrap_or (option_and_then (list_of as_table) o) [])) (map (whole (codes "ops")) (unwrap_or (option_and_then (list_of as_table) o) [])))) h
    ∙ ap (λ (o : Option (List Members)). checked (keyed (codes "client") (elim o [ None ↦ Some wrong_type | Some xs ↦ if is_empty xs then Some out_of_range else clients_fault xs ])) (both (names ++ map (text_at (codes "name")) (unwrap_or o [])) (map (whole (codes "ops")) (unwrap_or o [])))) e
    ∙ by (is_empty tables)
  where
    by : (b : Bool) → checked (keyed (codes "client") (if b then Some out_of_range else clients_fault tables)) (both (names ++ map (text_at (codes "name")) tables) (map (whole (codes "ops")) tables))
        ≡ (if b then Err (record { number = 9; key = codes "client" }) else listed names [] tables)
    by true = refl
    by false = sym (listed-checked names [] tables)

-- an array of no tables, and one of some
pub clients_none : (names : List (List ℕ)) {X : Type 0} (f : X → Members) (tables : List X) → (length tables == 0) ≡ true → with_tables names (map f tables) ≡ Err (record { number = 9; key = codes "client" })
clients_none names f tables size = ap (λ b. cond b (Err (record { number = 9; key = codes "client" })) (listed names [] (map f tables))) (is_empty-map f tables ∙ size)

pub clients_some : (names : List (List ℕ)) {X : Type 0} (f : X → Members) (tables : List X) → (length tables == 0) ≡ false → with_tables names (map f tables) ≡ listed names [] (map f tables)
clients_some names f tables size = ap (λ b. cond b (Err (record { number = 9; key = codes "client" })) (listed names [] (map f tables))) (is_empty-map f tables ∙ size)
