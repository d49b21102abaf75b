-- The clients, one after the other.
use Rattle.std.proofs.Common.{◌≡◌, ℕ, List, [], ◌∷◌, ◌++◌, map, Option, Some, None, Ok, Err, refl, sym, ap, ◌∙◌, append_assoc, codes}
use Rattle.std.specs.Option.{option_map}
use Rattle.std.proofs.lemmas.List.{append-nil}
use Rattle.toml.specs.Data.{Members, get_member}
use Rattle.sim_scenario.specs.Scenario.{Fault, keyed, first_some, client_fault, clients_fault, unknown_key, client_keys, string_fault, whole_fault, is_name, is_within, out_of_range, text_at, whole}
use Rattle.sim_scenario.specs.Parts.{checked, ◌>>=◌, client_of, client_keys_of, client_name_of, number_of, listed}

-- one more client
pub listed_more : (names : List (List ℕ)) (operations : List ℕ) (client : Members) (more : List Members) (name : List ℕ) (n : ℕ) → client_of client ≡ Ok (name, n)
    → listed names operations (client ∷ more) ≡ listed (names ++ name ∷ []) (operations ++ n ∷ []) more
unfolding listed
listed_more names operations client more name n e = ap (λ r. r >>= (λ first. listed (names ++ first.0 ∷ []) (operations ++ first.1 ∷ []) more)) e

-- a client with a fault
pub listed_stop : (names : List (List ℕ)) (operations : List ℕ) (client : Members) (more : List Members) (fault : Fault) → client_of client ≡ Err fault
    → listed names operations (client ∷ more) ≡ Err fault
unfolding listed
listed_stop names operations client more fault e = ap (λ r. r >>= (λ first. listed (names ++ first.0 ∷ []) (operations ++ first.1 ∷ []) more)) e

-- all clients are there
pub listed_all : (names : List (List ℕ)) (operations : List ℕ) → listed names operations [] ≡ Ok (names, operations)
unfolding listed
listed_all names operations = refl

abbrev named : List ℕ → ℕ → List ℕ × ℕ
named name n = (name, n)

abbrev both : List (List ℕ) → List ℕ → List (List ℕ) × List ℕ
both names operations = (names, operations)

three : (key : List ℕ) (a b c : Option ℕ) (name : List ℕ) (n : ℕ)
    → (checked (keyed key a) (tt {0}) >>= (λ _. checked (keyed key b) name >>= (λ x. checked (keyed key c) n >>= (λ m. Ok (named x m))))) ≡ checked (keyed key (first_some (a ∷ b ∷ c ∷ []))) (named name n)
three key (Some f) b c name n = refl
three key None (Some f) c name n = refl
three key None None (Some f) name n = refl
three key None None None name n = refl

client_of-checked : (client : Members) → client_of client ≡ checked (keyed (codes "client") (client_fault client)) (named (text_at (codes "name") client) (whole (codes "ops") client))
unfolding client_of client_keys_of client_name_of number_of
client_of-checked client =
    three (codes "client") (option_map (λ _. 3) (unknown_key client_keys client)) (string_fault is_name 10 (get_member (codes "name") client))
    (whole_fault (is_within 1 1000) out_of_range (get_member (codes "ops") client)) (text_at (codes "name") client) (whole (codes "ops") client)

abbrev all_names : List Members → List (List ℕ)
all_names clients = map (text_at (codes "name")) clients

abbrev all_operations : List Members → List ℕ
all_operations clients = map (whole (codes "ops")) clients

-- the next client is put after the others
next_listed : (client : Members) (more : List Members) (names : List (List ℕ)) (operations : List ℕ) (o : Option ℕ)
    → listed (names ++ text_at (codes "name") client ∷ []) (operations ++ whole (codes "ops") client ∷ []) more
    ≡ checked (keyed (codes "client") (clients_fault more)) (both ((names ++ text_at (codes "name") client ∷ []) ++ all_names more) ((operations ++ whole (codes "ops") client ∷ []) ++ all_operations more))
    → (checked (keyed (codes "client") o) (named (text_at (codes "name") client) (whole (codes "ops") client)) >>= (λ first. listed (names ++ first.0 ∷ []) (operations ++ first.1 ∷ []) more))
    ≡ checked (keyed (codes "client") (first_some (o ∷ map client_fault more))) (both (names ++ all_names (client ∷ more)) (operations ++ all_operations (client ∷ more)))
next_listed client more names operations (Some f) ih = refl
next_listed client more names operations None ih =
    ih ∙ ap (λ ns. checked (keyed (codes "client") (clients_fault more)) (both ns ((operations ++ whole (codes "ops") client ∷ []) ++ all_operations more))) (append_assoc names (text_at (codes "name") client ∷ []) (all_names more))
    ∙ ap (λ os. checked (keyed (codes "client") (clients_fault more)) (both (names ++ all_names (client ∷ more)) os)) (append_assoc operations (whole (codes "ops") client ∷ []) (all_operations more))

-- what the clients say together: the first fault, or all names and operations
pub listed-checked : (names : List (List ℕ)) (operations : List ℕ) (clients : List Members)
    → listed names operations clients ≡ checked (keyed (codes "client") (clients_fault clients)) (both (names ++ all_names clients) (operations ++ all_operations clients))
unfolding listed
listed-checked names operations [] = ap (λ ns. Ok (both ns operations)) (sym (append-nil names)) ∙ ap (λ os. Ok (both (names ++ []) os)) (sym (append-nil operations))
listed-checked names operations (client ∷ more) =
    ap (λ r. r >>= (λ first. listed (names ++ first.0 ∷ []) (operations ++ first.1 ∷ []) more)) (client_of-checked client)
    ∙ next_listed client more names operations (client_fault client) (listed-checked (names ++ text_at (codes "name") client ∷ []) (operations ++ whole (codes "ops") client ∷ []) more)
