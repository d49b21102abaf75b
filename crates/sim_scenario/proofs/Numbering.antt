-- The numbers of the hosts: each name gets the next one, where no earlier host has it.
use Rattle.std.proofs.Common.{◌≡◌, ℕ, ◌+◌, ◌||◌, Bool, true, false, cond, List, [], ◌∷◌, ◌++◌, length, map, drop, get_or, position, reverse, Option, Some, None, is_some, String, Global, string_bytes, refl, sym, ap, ◌∙◌, append_assoc, length-append, zero-add, Ok, Err, codes, ◌≤◌, arith}
use Rattle.std.specs.List.{list_any, enumerate_from, position_from}
use Rattle.std.proofs.lemmas.Iterator.Adapters.{position_from-zero}
use Rattle.std.specs.Option.{option_map}
use Rattle.std.specs.Map.{lookup}
use Rattle.std.specs.Str.{bytes_eq}
use Rattle.std.proofs.lemmas.List.{map-append, reverse-append, length-map, append-nil}
use Rattle.std.proofs.lemmas.List.Sorted.{IsPermutation-reverse, list_any-IsPermutation}
use Rattle.toml.specs.Data.{same_key}
use Rattle.std.specs.Prelude.{nat_lt, if◌then◌else◌}
use Rattle.sim_scenario.specs.Scenario.{repeated_from}
use Rattle.sim_scenario.specs.Parts.{checked, differing}
use Rattle.sim_scenario.proofs.Keys.{same_key-bytes_eq}

abbrev pub Host : Type 0
Host = String Global × ℕ

abbrev pub name_of : Host → List ℕ
name_of e = string_bytes e.0

abbrev pub numbered_name : Host → ℕ × List ℕ
numbered_name e = (e.1, string_bytes e.0)

-- a name is in the map where an earlier host has it
found-list_any : (name : List ℕ) (hosts : List Host) → is_some (lookup (λ k. bytes_eq name (string_bytes k)) hosts) ≡ list_any (same_key name) (map name_of hosts)
found-list_any name [] = refl
found-list_any name (e ∷ hosts) =
    by (bytes_eq name (string_bytes e.0)) (found-list_any name hosts) ∙ ap (λ b. b || list_any (same_key name) (map name_of hosts)) (sym (same_key-bytes_eq name (string_bytes e.0)))
  where
    by : (b : Bool) → is_some (lookup (λ k. bytes_eq name (string_bytes k)) hosts) ≡ list_any (same_key name) (map name_of hosts)
        → is_some (cond b (Some e.1) (lookup (λ k. bytes_eq name (string_bytes k)) hosts)) ≡ (b || list_any (same_key name) (map name_of hosts))
    by true ih = refl
    by false ih = ih

earlier : (name : List ℕ) (names : List (List ℕ)) → list_any (same_key name) (reverse names) ≡ list_any (same_key name) names
earlier name names = sym (list_any-IsPermutation (same_key name) names (reverse names) (IsPermutation-reverse names))

pub seen_before : (name : List ℕ) (hosts : List Host) → is_some (lookup (λ k. bytes_eq name (string_bytes k)) hosts) ≡ list_any (same_key name) (reverse (map name_of hosts))
seen_before name hosts = found-list_any name hosts ∙ sym (earlier name (map name_of hosts))

abbrev pub repeats : List (List ℕ) → List (List ℕ) → Option ℕ
repeats done rest = repeated_from (length done) (reverse done) rest

-- a name that no earlier host has
pub repeats_more : (done : List (List ℕ)) (name : List ℕ) (rest : List (List ℕ)) → list_any (same_key name) (reverse done) ≡ false → repeats done (name ∷ rest) ≡ repeats (done ++ name ∷ []) rest
repeats_more done name rest new =
    ap (λ b. cond b (Some (length done)) (repeated_from (length done + 1) (name ∷ reverse done) rest)) new
    ∙ ap (λ k. repeated_from k (name ∷ reverse done) rest) (sym (length-append done (name ∷ [])))
    ∙ ap (λ before. repeated_from (length (done ++ name ∷ [])) before rest) (sym (reverse-append done (name ∷ [])))

-- a name that an earlier host has
pub repeats_stop : (done : List (List ℕ)) (name : List ℕ) (rest : List (List ℕ)) → list_any (same_key name) (reverse done) ≡ true → repeats done (name ∷ rest) ≡ Some (length done)
repeats_stop done name rest old = ap (λ b. cond b (Some (length done)) (repeated_from (length done + 1) (name ∷ reverse done) rest)) old

-- one more host is numbered
enumerate_more : (n : ℕ) (names : List (List ℕ)) (name : List ℕ) → enumerate_from n (names ++ name ∷ []) ≡ enumerate_from n names ++ (n + length names, name) ∷ []
enumerate_more n [] name = ap (λ k. (k, name) ∷ []) (omega arith)
enumerate_more n (x ∷ names) name =
    ap (λ es. (n, x) ∷ es) (enumerate_more (n + 1) names name ∙ ap (λ k. enumerate_from (n + 1) names ++ (k, name) ∷ []) (omega arith))

pub numbered_more : (hosts : List Host) (host : Host) → host.1 ≡ length hosts → map numbered_name hosts ≡ enumerate_from 0 (map name_of hosts)
    → map numbered_name (hosts ++ host ∷ []) ≡ enumerate_from 0 (map name_of (hosts ++ host ∷ []))
numbered_more hosts host next sofar =
    map-append numbered_name hosts (host ∷ []) ∙ ap (λ es. es ++ (host.1, string_bytes host.0) ∷ []) sofar
    ∙ ap (λ k. enumerate_from 0 (map name_of hosts) ++ (k, string_bytes host.0) ∷ []) (next ∙ sym (length-map hosts name_of) ∙ sym (zero-add (length (map name_of hosts))))
    ∙ sym (enumerate_more 0 (map name_of hosts) (string_bytes host.0)) ∙ ap (enumerate_from 0) (sym (map-append name_of hosts (host ∷ [])))

-- the names so far and the rest are all names, also after one more
pub placed : (old new : List Host) (host : Host) (left rest : List (String Global)) (all : List (List ℕ)) → new ≡ old ++ host ∷ [] → left ≡ host.0 ∷ rest
    → map name_of old ++ map string_bytes left ≡ all → map name_of new ++ map string_bytes rest ≡ all
placed old new host left rest all e f h =
    ap (λ t. map name_of t ++ map string_bytes rest) e
    ∙ ap (λ t. t ++ map string_bytes rest) (map-append name_of old (host ∷ []))
    ∙ append_assoc (map name_of old) (string_bytes host.0 ∷ []) (map string_bytes rest)
    ∙ ap (λ t. map name_of old ++ map string_bytes t) (sym f) ∙ h

-- no name is repeated so far, also after one more
pub still_new : (old new : List Host) (host : Host) (left rest : List (String Global)) → new ≡ old ++ host ∷ [] → left ≡ host.0 ∷ rest
    → is_some (lookup (λ k. bytes_eq (string_bytes host.0) (string_bytes k)) old) ≡ false → repeats (map name_of new) (map string_bytes rest) ≡ repeats (map name_of old) (map string_bytes left)
still_new old new host left rest e f fresh =
    ap (λ t. repeats (map name_of t) (map string_bytes rest)) e
    ∙ ap (λ t. repeats t (map string_bytes rest)) (map-append name_of old (host ∷ []))
    ∙ sym (repeats_more (map name_of old) (string_bytes host.0) (map string_bytes rest) (sym (seen_before (string_bytes host.0) old) ∙ fresh))
    ∙ ap (λ t. repeats (map name_of old) (map string_bytes t)) (sym f)

-- the numbers so far, also after one more
pub still_numbered : (old new : List Host) (host : Host) → new ≡ old ++ host ∷ [] → host.1 ≡ length old
    → map numbered_name old ≡ enumerate_from 0 (map name_of old) → map numbered_name new ≡ enumerate_from 0 (map name_of new)
still_numbered old new host e next h =
    ap (map numbered_name) e ∙ numbered_more old host next h ∙ ap (λ t. enumerate_from 0 (map name_of t)) (sym e)

-- there are no more hosts than names
pub few : (hosts : List Host) (left all : List (String Global)) → map name_of hosts ++ map string_bytes left ≡ map string_bytes all → length hosts ≤ length all
few hosts left all h =
    omega (arith, ap length h, length-append (map name_of hosts) (map string_bytes left), length-map hosts name_of, length-map all (string_bytes {Z = Global}))

-- a name that an earlier host has: the fault
pub differing_stop : (servers : ℕ) (hosts : List Host) (name : String Global) (left rest : List (String Global)) (all : List (List ℕ)) (first : Bool) → left ≡ name ∷ rest
    → is_some (lookup (λ k. bytes_eq (string_bytes name) (string_bytes k)) hosts) ≡ true → repeats (map name_of hosts) (map string_bytes left) ≡ repeated_from 0 [] all
    → nat_lt (length hosts) servers ≡ first → differing servers all ≡ Err (record { number = 12; key = if first then codes "servers" else codes "client" })
unfolding differing
differing_stop servers hosts name left rest all first f old h side =
    let at : repeated_from 0 [] all ≡ Some (length hosts) =
    sym h ∙ ap (λ t. repeats (map name_of hosts) (map string_bytes t)) f
    ∙ repeats_stop (map name_of hosts) (string_bytes name) (map string_bytes rest) (sym (seen_before (string_bytes name) hosts) ∙ old) ∙ ap Some (length-map hosts name_of) in
    ap (λ o. checked (option_map (λ k. record { number = 12; key = if nat_lt k servers then codes "servers" else codes "client" }) o) all) at
    ∙ ap (λ b. Err (record { number = 12; key = if b then codes "servers" else codes "client" })) side

-- no name is left: all names differ
pub differing_all : (servers : ℕ) (hosts : List Host) (left : List (String Global)) (all : List (List ℕ)) → left ≡ [] → map name_of hosts ++ map string_bytes left ≡ all
    → repeats (map name_of hosts) (map string_bytes left) ≡ repeated_from 0 [] all → differing servers all ≡ Ok (map name_of hosts)
unfolding differing
differing_all servers hosts left all none placed h =
    let new : repeated_from 0 [] all ≡ None = sym h ∙ ap (λ t. repeats (map name_of hosts) (map string_bytes t)) none in
    ap (λ o. checked (option_map (λ k. record { number = 12; key = if nat_lt k servers then codes "servers" else codes "client" }) o) all) new
    ∙ ap Ok (sym placed ∙ ap (λ t. map name_of hosts ++ map string_bytes t) none ∙ append-nil (map name_of hosts))

pub nil_from_length : {X : Type 0} (xs : List X) → length xs ≡ 0 → xs ≡ []
nil_from_length [] h = refl
nil_from_length (x ∷ xs) h = absurd (omega arith)

pub None_from_is_some : {X : Type 0} (o : Option X) → is_some o ≡ false → o ≡ None
None_from_is_some None h = refl
None_from_is_some (Some x) h = cc

-- the number that the map has for a name is the name's place
numbered_lookup : (n : ℕ) (hosts : List Host) (name : List ℕ) → map numbered_name hosts ≡ enumerate_from n (map name_of hosts)
    → lookup (λ k. bytes_eq name (string_bytes k)) hosts ≡ position_from (same_key name) n (map name_of hosts)
numbered_lookup n [] name h = refl
numbered_lookup n (e ∷ hosts) name h =
    let heads : e.1 ≡ n = ap (λ (l : List (ℕ × List ℕ)). (get_or l 0 (0, [])).0) h in
    let tails : map numbered_name hosts ≡ enumerate_from (n + 1) (map name_of hosts) = ap (drop 1) h in
    ap (λ b. cond b (Some e.1) (lookup (λ k. bytes_eq name (string_bytes k)) hosts)) (sym (same_key-bytes_eq name (name_of e)))
    ∙ ap (λ k. cond (same_key name (name_of e)) (Some k) (lookup (λ x. bytes_eq name (string_bytes x)) hosts)) heads
    ∙ ap (λ o. cond (same_key name (name_of e)) (Some n) o) (numbered_lookup (n + 1) hosts name tails)

pub number_at_place : (hosts : List Host) (name : List ℕ) → map numbered_name hosts ≡ enumerate_from 0 (map name_of hosts)
    → lookup (λ k. bytes_eq name (string_bytes k)) hosts ≡ position (same_key name) (map name_of hosts)
number_at_place hosts name h = numbered_lookup 0 hosts name h ∙ sym (position_from-zero (same_key name) (map name_of hosts))
