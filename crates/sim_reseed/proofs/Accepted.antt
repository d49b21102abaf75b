-- A scenario has the shape of one, and a sound seed.
use Rattle.std.proofs.Common.{◌≡◌, ℕ, ◌++◌, List, [], ◌∷◌, Option, Some, None, Bool, true, false, cond, codes, map, refl, sym, ap, ◌∙◌, inl, inr, ℤ, ◌||◌}
use Rattle.std.specs.Prelude.{is_some, if◌then◌else◌}
use Rattle.std.specs.Option.{option_map, option_and_then, unwrap_or}
use Rattle.std.specs.List.{AllByRecursion, list_any}
use Rattle.std.proofs.lemmas.Bool.{cases_Bool}
use Rattle.toml.specs.Data.{Data, string, integer, float, boolean, datetime, array, table, Members, no_members, member, same_key, get_member, as_str, as_table}
use Rattle.sim_scenario.specs.Scenario.{Protocol, Fault, first_some, keyed, at_key, whole_fault, string_fault, list_fault, list_of, all_some, data_of, is_empty, unknown_key, is_known, known_keys, top_keys, format_2_keys, client_keys, link_keys, client_fault, clients_fault, link_fault, links_fault, key_faults, document_fault, is_format_2, is_seed, is_name, is_within, out_of_range, wrong_type, whole, names_fault, place_named, count_fault, repeated_fault, host_fault, pair_fault, links_of}
use Rattle.sim_reseed.specs.Shape.{is_plain, HasOther, IsOtherElement, HasOtherElement, IsOtherValue, HasOtherValue}
use Rattle.sim_reseed.proofs.Keys.{same, get_member-passed}

-- without a first fault there is none
all_none : {A : Type 0} (faults : List (Option A)) → first_some faults ≡ None → AllByRecursion (λ o. o ≡ None) faults
all_none [] h = tt
all_none (None ∷ more) h = (refl, all_none more h)
all_none (Some x ∷ more) h = cc

not_keyed : (key : List ℕ) (o : Option ℕ) → keyed key o ≡ None → o ≡ None
not_keyed key None h = refl
not_keyed key (Some n) h = cc

not_mapped : {A B : Type 0} (f : A → B) (o : Option A) → option_map f o ≡ None → o ≡ None
not_mapped f None h = refl
not_mapped f (Some x) h = cc

-- a key that is found is a known one
known_found : (known : List (List ℕ)) (key : List ℕ) (d : Data) (ms : Members) → get_member key ms ≡ Some d → unknown_key known ms ≡ None → is_known known key ≡ true
known_found known key d no_members h none = cc
known_found known key d (member k e rest) h none =
    elim (cases_Bool (is_known known k)) [
      | inr other ↦ let wrong : Some k ≡ None = sym (ap (λ b. cond b (unknown_key known rest) (Some k)) other) ∙ none in cc
      | inl is ↦ elim (cases_Bool (same_key key k)) [
        | inl here ↦ ap (is_known known) (same key k here) ∙ is
        | inr past ↦
            known_found known key d rest (sym (get_member-passed key k e rest past) ∙ h)
            (sym (ap (λ b. cond b (unknown_key known rest) (Some k)) is) ∙ none)
      ]
    ]

-- what holds of each known key holds of one
at_known : (P : List ℕ → Type 0) (known : List (List ℕ)) (key : List ℕ) → AllByRecursion P known → is_known known key ≡ true → P key
at_known P [] key h is = cc
at_known P (k ∷ known) key h is =
    elim (cases_Bool (same_key key k)) [
      | inl here ↦ rw (same key k here) h.0
      | inr other ↦ at_known P known key h.1 (sym (ap (λ b. b || list_any (same_key key) known) other) ∙ is)
    ]

-- ---- plain values, which the members of clients and links have

plain_whole : (test : ℤ → Bool) (own : ℕ) (d : Data) → whole_fault test own (Some d) ≡ None → is_plain d ≡ true
plain_whole test own (integer z) h = refl
plain_whole test own (string s) h = refl
plain_whole test own (float x) h = cc
plain_whole test own (boolean b) h = cc
plain_whole test own (datetime dt) h = cc
plain_whole test own (array ds) h = cc
plain_whole test own (table ms) h = cc

plain_string : (test : List ℕ → Bool) (own : ℕ) (d : Data) → string_fault test own (Some d) ≡ None → is_plain d ≡ true
plain_string test own (integer z) h = refl
plain_string test own (string s) h = refl
plain_string test own (float x) h = cc
plain_string test own (boolean b) h = cc
plain_string test own (datetime dt) h = cc
plain_string test own (array ds) h = cc
plain_string test own (table ms) h = cc

-- a key of a table whose value is plain, if there is one
abbrev IsPlainAt : Members → List ℕ → Type 0
IsPlainAt ms key = (d : Data) → get_member key ms ≡ Some d → is_plain d ≡ true

whole_at : (ms : Members) (key : List ℕ) (test : ℤ → Bool) (own : ℕ) → whole_fault test own (get_member key ms) ≡ None → IsPlainAt ms key
whole_at ms key test own h = λ d found. plain_whole test own d (sym (ap (whole_fault test own) found) ∙ h)

string_at : (ms : Members) (key : List ℕ) (test : List ℕ → Bool) (own : ℕ) → string_fault test own (get_member key ms) ≡ None → IsPlainAt ms key
string_at ms key test own h = λ d found. plain_string test own d (sym (ap (string_fault test own) found) ∙ h)

-- a table without other keys, and with plain values at its own
no_other : (known : List (List ℕ)) (ms : Members) → unknown_key known ms ≡ None → AllByRecursion (IsPlainAt ms) known → HasOther ms → ⊥
no_other known ms none plain o =
    let here : is_plain o.at ≡ true = at_known (IsPlainAt ms) known o.key plain (known_found known o.key o.at ms o.found none) o.at o.found in
    let wrong : true ≡ false = sym here ∙ o.other in
    cc

abbrev client_faults : Members → List (Option ℕ)
client_faults client =
    option_map (λ _. 3) (unknown_key client_keys client)
    ∷ string_fault is_name 10 (get_member (codes "name") client)
    ∷ whole_fault (is_within 1 1000) out_of_range (get_member (codes "ops") client)
    ∷ []

abbrev link_faults : Members → List (Option ℕ)
link_faults link =
    option_map (λ _. 3) (unknown_key link_keys link)
    ∷ string_fault (λ _. true) wrong_type (get_member (codes "source") link)
    ∷ string_fault (λ _. true) wrong_type (get_member (codes "target") link)
    ∷ whole_fault (is_within 0 60000) out_of_range (get_member (codes "latency_min") link)
    ∷ whole_fault (is_within (whole (codes "latency_min") link) 60000) out_of_range (get_member (codes "latency_max") link)
    ∷ whole_fault (is_within 0 1000) out_of_range (get_member (codes "loss") link)
    ∷ []

-- a client and a link without a fault
client_plain : (client : Members) → client_fault client ≡ None → HasOther client → ⊥
client_plain client h =
    let keys : AllByRecursion (λ o. o ≡ None) (client_faults client) = all_none (client_faults client) h in
    no_other client_keys client (not_mapped (λ _. 3) (unknown_key client_keys client) keys.0) (
      string_at client (codes "name") is_name 10 keys.1.0,
      (whole_at client (codes "ops") (is_within 1 1000) out_of_range keys.1.1.0, tt),
    )

link_plain : (link : Members) → link_fault link ≡ None → HasOther link → ⊥
link_plain link h =
    let keys : AllByRecursion (λ o. o ≡ None) (link_faults link) = all_none (link_faults link) h in
    no_other link_keys link (not_mapped (λ _. 3) (unknown_key link_keys link) keys.0) (
      string_at link (codes "source") (λ _. true) wrong_type keys.1.0,
      (
        string_at link (codes "target") (λ _. true) wrong_type keys.1.1.0,
        (
          whole_at link (codes "latency_min") (is_within 0 60000) out_of_range keys.1.1.1.0,
          (
            whole_at link (codes "latency_max") (is_within (whole (codes "latency_min") link) 60000) out_of_range keys.1.1.1.1.0,
            (whole_at link (codes "loss") (is_within 0 1000) out_of_range keys.1.1.1.1.1.0, tt),
          ),
        ),
      ),
    )

-- ---- the values of a scenario's keys

abbrev IsFine : Data → Type 0
IsFine d = IsOtherValue d → ⊥

fine_plain : (d : Data) → is_plain d ≡ true → IsFine d
fine_plain (integer z) h = λ o. let wrong : true ≡ false = o.other in cc
fine_plain (string s) h = λ o. let wrong : true ≡ false = o.other in cc
fine_plain (float x) h = cc
fine_plain (boolean b) h = cc
fine_plain (datetime dt) h = cc
fine_plain (array ds) h = cc
fine_plain (table ms) h = cc

-- the elements of an array, each read by a function that may fail
split : {B : Type 0} (o : Option B) (more : Option (List B)) (xs : List B) → option_and_then (λ y. option_map (λ ys. y ∷ ys) more) o ≡ Some xs
    → (y : B) × (ys : List B) × (o ≡ Some y) × (more ≡ Some ys) × (xs ≡ y ∷ ys)
split None more xs h = cc
split (Some y) None xs h = cc
split (Some y) (Some ys) xs h = (y, ys, refl, refl, cc)

module _ {B : Type 0} (f : Data → Option B) (Good : B → Type 0) (good : (d : Data) (x : B) → f d ≡ Some x → Good x → IsOtherElement d → ⊥) where
  no_element : (ds : List Data) (xs : List B) → all_some f ds ≡ Some xs → AllByRecursion Good xs → HasOtherElement ds → ⊥
  no_element [] xs e h o = o
  no_element (d ∷ ds) xs e h o =
      let parts = split (f d) (all_some f ds) xs e in
      let each : AllByRecursion Good (parts.0 ∷ parts.1) = rw parts.4 at h in
      elim o [
        | inl here ↦ good d parts.0 parts.2 each.0 here
        | inr more ↦ no_element ds parts.1 parts.3 each.1 more
      ]

  -- an array of good elements
  fine_list : (d : Data) (xs : List B) → list_of f d ≡ Some xs → AllByRecursion Good xs → IsFine d
  fine_list (array ds) xs e h = λ o. no_element (data_of ds) xs e h (o.inside ds refl)
  fine_list (integer z) xs e h = cc
  fine_list (string s) xs e h = cc
  fine_list (float x) xs e h = cc
  fine_list (boolean b) xs e h = cc
  fine_list (datetime dt) xs e h = cc
  fine_list (table ms) xs e h = cc

no_first : {A : Type 0} (o : Option A) (more : List (Option A)) → first_some (o ∷ more) ≡ None → (o ≡ None) × (first_some more ≡ None)
no_first None more h = (refl, h)
no_first (Some x) more h = cc

each_none : {A : Type 0} (fault : A → Option ℕ) (xs : List A) → first_some (map fault xs) ≡ None → AllByRecursion (λ x. fault x ≡ None) xs
each_none fault [] h = tt
each_none fault (x ∷ xs) h = let parts = no_first (fault x) (map fault xs) h in (parts.0, each_none fault xs parts.1)

-- a key of a document whose value has the shape of a scenario's, if there is one
abbrev IsFineAt : Members → List ℕ → Type 0
IsFineAt doc key = (d : Data) → get_member key doc ≡ Some d → IsFine d

fine_whole : (doc : Members) (key : List ℕ) (test : ℤ → Bool) (own : ℕ) → at_key key doc (whole_fault test own) ≡ None → IsFineAt doc key
fine_whole doc key test own h = λ d found. fine_plain d (whole_at doc key test own (not_keyed key (whole_fault test own (get_member key doc)) h) d found)

fine_string : (doc : Members) (key : List ℕ) (test : List ℕ → Bool) (own : ℕ) → at_key key doc (string_fault test own) ≡ None → IsFineAt doc key
fine_string doc key test own h = λ d found. fine_plain d (string_at doc key test own (not_keyed key (string_fault test own (get_member key doc)) h) d found)

-- a list without a fault
listed : {B : Type 0} (own : List B → Option ℕ) (found : Option (List B))
    → (elim found as (λ _. Option ℕ) [ None ↦ Some wrong_type | Some xs ↦ if is_empty xs then Some out_of_range else own xs ]) ≡ None → (xs : List B) × (found ≡ Some xs) × (own xs ≡ None)
listed own None h = cc
listed own (Some []) h = cc
listed own (Some (x ∷ xs)) h = (x ∷ xs, refl, h)

element_string : (d : Data) (s : List ℕ) → as_str d ≡ Some s → Unit {0} → IsOtherElement d → ⊥
element_string (string t) s e u o = let wrong : true ≡ false = o.other in cc
element_string (integer z) s e u o = cc
element_string (float x) s e u o = cc
element_string (boolean b) s e u o = cc
element_string (datetime dt) s e u o = cc
element_string (array ds) s e u o = cc
element_string (table ms) s e u o = cc

units : {B : Type 0} (xs : List B) → AllByRecursion (λ _. Unit {0}) xs
units [] = tt
units (x ∷ xs) = (tt, units xs)

fine_texts : (doc : Members) (key : List ℕ) (own : List (List ℕ) → Option ℕ) → at_key key doc (list_fault own as_str) ≡ None → IsFineAt doc key
fine_texts doc key own h = λ d found.
    let none : list_fault own as_str (Some d) ≡ None = sym (ap (list_fault own as_str) found) ∙ not_keyed key (list_fault own as_str (get_member key doc)) h in
    let all = listed own (list_of as_str d) none in
    fine_list as_str (λ _. Unit {0}) element_string d all.0 all.1 (units all.0)

-- an array of tables, of which none has a fault
fine_tables : (fault : Members → Option ℕ) → ((ms : Members) → fault ms ≡ None → HasOther ms → ⊥) → (d : Data) (tables : List Members) → list_of as_table d ≡ Some tables → first_some (map fault tables) ≡ None → IsFine d
fine_tables fault plain d tables e none = fine_list as_table (λ ms. fault ms ≡ None) (λ d ms is good o. plain ms good (o.inside ms is)) d tables e (each_none fault tables none)

fine_clients : (doc : Members) (key : List ℕ) → at_key key doc (list_fault clients_fault as_table) ≡ None → IsFineAt doc key
fine_clients doc key h = λ d found.
    let none : list_fault clients_fault as_table (Some d) ≡ None = sym (ap (list_fault clients_fault as_table) found) ∙ not_keyed key (list_fault clients_fault as_table (get_member key doc)) h in
    let all = listed clients_fault (list_of as_table d) none in
    fine_tables client_fault client_plain d all.0 all.1 all.2

linked : (found : Option (List Members)) → (elim found as (λ _. Option ℕ) [ None ↦ Some wrong_type | Some tables ↦ first_some (map link_fault tables) ]) ≡ None
    → (tables : List Members) × (found ≡ Some tables) × (first_some (map link_fault tables) ≡ None)
linked None h = cc
linked (Some tables) h = (tables, refl, h)

fine_links : (doc : Members) (key : List ℕ) → at_key key doc links_fault ≡ None → IsFineAt doc key
fine_links doc key h = λ d found.
    let none : links_fault (Some d) ≡ None = sym (ap links_fault found) ∙ not_keyed key (links_fault (get_member key doc)) h in
    let all = linked (list_of as_table d) none in
    fine_tables link_fault link_plain d all.0 all.1 all.2

-- ---- documents

module _ (protocols : List Protocol) (doc : Members) where
  abbrev faults : List (Option Fault)
  faults =
      option_map (λ key. record { number = 3; key = key }) (unknown_key (known_keys doc) doc)
      ∷ first_some (key_faults protocols doc)
      ∷ count_fault protocols doc
      ∷ repeated_fault doc
      ∷ host_fault (links_of doc)
      ∷ pair_fault (unwrap_or (links_of doc) [])
      ∷ []

  -- the keys of both formats, and then some more
  fine_top : (more : List (List ℕ)) → AllByRecursion (λ o. o ≡ None) (key_faults protocols doc) → AllByRecursion (IsFineAt doc) more → AllByRecursion (IsFineAt doc) (top_keys ++ more)
  fine_top more keys rest = (
    fine_whole doc (codes "format") (is_within 1 2) 8 keys.0,
    (
      fine_string doc (codes "seed") is_seed 6 keys.1.0,
      (
        fine_string doc (codes "protocol") (λ s. is_some (place_named protocols s)) 7 keys.1.1.0,
        (
          fine_whole doc (codes "tick") (is_within 1 60000) out_of_range keys.1.1.1.0,
          (
            fine_whole doc (codes "latency_min") (is_within 0 60000) out_of_range keys.1.1.1.1.0,
            (
              fine_whole doc (codes "latency_max") (is_within (whole (codes "latency_min") doc) 60000) out_of_range keys.1.1.1.1.1.0,
              (
                fine_whole doc (codes "loss") (is_within 0 1000) out_of_range keys.1.1.1.1.1.1.0,
                (
                  fine_texts doc (codes "servers") names_fault keys.1.1.1.1.1.1.1.0,
                  (
                    fine_whole doc (codes "checkpoint") (is_within 1 1024) out_of_range keys.1.1.1.1.1.1.1.1.0,
                    (
                      fine_whole doc (codes "window") (is_within 1 4096) out_of_range keys.1.1.1.1.1.1.1.1.1.0,
                      (fine_clients doc (codes "client") keys.1.1.1.1.1.1.1.1.1.1.0, rest),
                    ),
                  ),
                ),
              ),
            ),
          ),
        ),
      ),
    ),
  )

  fine_known : (format_2 : Bool) → is_format_2 doc ≡ format_2 → AllByRecursion (λ o. o ≡ None) (key_faults protocols doc)
      → AllByRecursion (IsFineAt doc) (if format_2 then top_keys ++ format_2_keys else top_keys)
  fine_known false is keys = fine_top [] keys tt
  fine_known true is keys =
      let late : at_key (codes "disk_latency") doc (whole_fault (is_within 0 60000) out_of_range) ≡ None =
      sym (ap (λ b. cond b (at_key (codes "disk_latency") doc (whole_fault (is_within 0 60000) out_of_range)) None) is) ∙ keys.1.1.1.1.1.1.1.1.1.1.1.0 in
      let link : at_key (codes "link") doc links_fault ≡ None =
      sym (ap (λ b. cond b (at_key (codes "link") doc links_fault) None) is) ∙ keys.1.1.1.1.1.1.1.1.1.1.1.1.0 in
      fine_top format_2_keys keys (fine_whole doc (codes "disk_latency") (is_within 0 60000) out_of_range late, (fine_links doc (codes "link") link, tt))

  -- a document without a fault has the shape of a scenario's
  pub accepted_shape : document_fault protocols doc ≡ None → HasOtherValue doc → ⊥
  accepted_shape h o =
      let none : AllByRecursion (λ f. f ≡ None) faults = all_none faults h in
      let keys = all_none (key_faults protocols doc) none.1.0 in
      let unknown = not_mapped (λ key. let f : Fault = record { number = 3; key = key } in f) (unknown_key (known_keys doc) doc) none.0 in
      at_known (IsFineAt doc) (known_keys doc) o.key (fine_known (is_format_2 doc) refl keys) (known_found (known_keys doc) o.key o.at doc o.found unknown) o.at o.found o.other

  -- and a sound seed
  pub accepted_seed : document_fault protocols doc ≡ None → string_fault is_seed 6 (get_member (codes "seed") doc) ≡ None
  accepted_seed h =
      let none : AllByRecursion (λ f. f ≡ None) faults = all_none faults h in
      let keys = all_none (key_faults protocols doc) none.1.0 in
      not_keyed (codes "seed") (string_fault is_seed 6 (get_member (codes "seed") doc)) keys.1.0
