-- A text that is accepted is within the limits.
use Rattle.std.proofs.Common.{◌≡◌, ℕ, ◌+◌, ◌-◌, ◌<◌, ◌≤◌, zero, suc, Bool, true, false, cond, List, [], ◌∷◌, ◌++◌, length, map, replicate, get_or, set, Option, Some, None, Result, Ok, Err, refl, sym, ap, subst, ◌∙◌, codes, length-append, arith}
use Rattle.std.specs.Prelude.{pos, negsuc, nat_lt, nat_le, ◌||◌, is_some, if◌then◌else◌}
use Rattle.std.specs.Option.{unwrap_or, option_map, option_and_then}
use Rattle.std.proofs.lemmas.Bool.{and_parts, leb-true, ltb-false}
use Rattle.std.proofs.lemmas.List.{length-map, length-replicate, get_or-replicate, get_or-append_right, get_or-take}
use Rattle.toml.specs.Data.{Data, Members, same_key, string, integer, float, boolean, datetime, array, table, get_member, as_integer, as_str, as_table}
use Rattle.toml.specs.Parse.{parse_document}
use Rattle.std.specs.List.{AllByRecursion, position}
use Rattle.std.specs.Str.{bytes_eq}
use Rattle.sim_links.specs.declared.Way.{Way}
use Rattle.sim_links.specs.Ways.{Ways, all, way, with_way, at_once, IsWay}
use Rattle.sim_scenario.proofs.Linking.{all_some-each, between-found}
use Rattle.sim_links.specs.Link.{direction}
use Rattle.sim_scenario.specs.Scenario.{Protocol, place_named, Fault, ScenarioText, first_some, key_faults, count_fault, repeated_fault, document_fault, scenario_of, read, read_document, text_fault, unknown_key, known_keys, client_keys, at_key, keyed, whole_fault, string_fault, list_fault, list_of, names_fault, client_fault, clients_fault, is_within, is_empty, is_name, out_of_range, whole, server_names, clients, host_names, least_servers, protocol_of, first_32, way_of, is_format_2, link_fault, links_fault, link_keys, link_text, links, links_of, link_between, host_fault, pair_fault, with_links, ways_of, LinkText, Link, wrong_type}
use Rattle.sim_scenario.specs.Limits.{IsWithinLimits}

-- the first fault of several is none: so are all
no_first : {A : Type 0} (o : Option A) (more : List (Option A)) → first_some (o ∷ more) ≡ None → (o ≡ None) × (first_some more ≡ None)
no_first None more h = (refl, h)
no_first (Some x) more h = cc

no_keyed : (key : List ℕ) (o : Option ℕ) → keyed key o ≡ None → o ≡ None
no_keyed key None h = refl
no_keyed key (Some n) h = cc

abbrev number_in : Option Data → ℕ
number_in o = elim (option_and_then as_integer o) [ None ↦ 0 | Some z ↦ elim z [ pos n ↦ n | negsuc n ↦ 0 ] ]

passed : (own : ℕ) (b : Bool) → (if b then None else Some own) ≡ None → b ≡ true
passed own true h = refl
passed own false h = cc

-- a number without a fault is in its range
number_within : (low high own : ℕ) (o : Option Data) → whole_fault (is_within low high) own o ≡ None → (low ≤ number_in o) × (number_in o ≤ high)
number_within low high own None h = cc
number_within low high own (Some (integer (pos n))) h =
    let parts = and_parts (nat_le low n) (nat_le n high) (passed own (is_within low high (pos n)) h) in
    (leb-true low n parts.0, leb-true n high parts.1)
number_within low high own (Some (integer (negsuc n))) h = cc
number_within low high own (Some (string s)) h = cc
number_within low high own (Some (float x)) h = cc
number_within low high own (Some (boolean b)) h = cc
number_within low high own (Some (datetime d)) h = cc
number_within low high own (Some (array ds)) h = cc
number_within low high own (Some (table ms)) h = cc

whole_within : (key : List ℕ) (low high own : ℕ) (doc : Members) → at_key key doc (whole_fault (is_within low high) own) ≡ None → (low ≤ whole key doc) × (whole key doc ≤ high)
whole_within key low high own doc h = number_within low high own (get_member key doc) (no_keyed key _ h)

-- a list without a fault has items, and they have none
abbrev items_in : {B : Type 0} → (Data → Option B) → Option Data → List B
items_in f o = unwrap_or (option_and_then (list_of f) o) []

filled_list : {B : Type 0} (own : List B → Option ℕ) (found : Option (List B))
    → (elim found as (λ _. Option ℕ) [ None ↦ Some 5 | Some xs ↦ if is_empty xs then Some out_of_range else own xs ]) ≡ None → (1 ≤ length (unwrap_or found [])) × (own (unwrap_or found []) ≡ None)
filled_list own None h = cc
filled_list own (Some []) h = cc
filled_list own (Some (x ∷ xs)) h = (omega arith, h)

list_within : {B : Type 0} (own : List B → Option ℕ) (f : Data → Option B) (o : Option Data) → list_fault own f o ≡ None → (1 ≤ length (items_in f o)) × (own (items_in f o) ≡ None)
list_within own f None h = cc
list_within own f (Some d) h = filled_list own (list_of f d) h

-- the operations of clients without a fault
client_within : (client : Members) → client_fault client ≡ None → (1 ≤ whole (codes "ops") client) × (whole (codes "ops") client ≤ 1000)
client_within client h =
    let keys = no_first (option_map (λ _. 3) (unknown_key client_keys client)) _ h in
    let name = no_first (string_fault is_name 10 (get_member (codes "name") client)) _ keys.1 in
    let ops = no_first (whole_fault (is_within 1 1000) out_of_range (get_member (codes "ops") client)) [] name.1 in
    number_within 1 1000 out_of_range (get_member (codes "ops") client) ops.0

clients_within : (clients : List Members) → clients_fault clients ≡ None → (k : ℕ) → k < length clients
    → (1 ≤ get_or (map (whole (codes "ops")) clients) k 0) × (get_or (map (whole (codes "ops")) clients) k 0 ≤ 1000)
clients_within [] h k below = absurd (omega arith)
clients_within (client ∷ more) h zero below = client_within client (no_first (client_fault client) (map client_fault more) h).0
clients_within (client ∷ more) h (suc k) below = clients_within more (no_first (client_fault client) (map client_fault more) h).1 k (omega arith)

-- the operations of a client among those of all hosts
ops_at : (servers : ℕ) (operations : List ℕ) (h : ℕ) → servers ≤ h → h < 32 → h < servers + length operations
    → get_or (first_32 (replicate servers 0 ++ operations)) h 0 ≡ get_or operations (h - servers) 0
ops_at servers operations h from below within =
    let zeros : length (replicate {A = ℕ} servers 0) ≡ servers = length-replicate {A = ℕ} servers 0 in
    let size : length (replicate servers 0 ++ operations) ≡ servers + length operations = omega (arith, length-append (replicate {A = ℕ} servers 0) operations, zeros) in
    get_or-take 32 ((replicate servers 0 ++ operations) ++ replicate 32 0) h 0 below
    ∙ first_part (replicate servers 0 ++ operations) (replicate 32 0) h (omega arith)
    ∙ get_or-append_right (replicate servers 0) operations servers h 0 zeros from
  where
    first_part : (xs ys : List ℕ) (i : ℕ) → i < length xs → get_or (xs ++ ys) i 0 ≡ get_or xs i 0
    first_part [] ys i lt = absurd (omega arith)
    first_part (x ∷ xs) ys zero lt = refl
    first_part (x ∷ xs) ys (suc i) lt = first_part xs ys i (omega arith)

no_count : (b : Bool) (fault : Fault) → (if b then Some fault else None) ≡ None → b ≡ false
no_count true fault h = cc
no_count false fault h = refl

neither : (a b : Bool) → (a || b) ≡ false → a ≡ false
neither true b h = cc
neither false b h = refl

-- none of several faults
none_at : {A : Type 0} (xs : List (Option A)) → first_some xs ≡ None → (k : ℕ) → get_or xs k None ≡ None
none_at [] h k = refl
none_at (None ∷ xs) h zero = refl
none_at (None ∷ xs) h (suc k) = none_at xs h k
none_at (Some x ∷ xs) h k = cc

abbrev faults_of : List Protocol → Members → List (Option Fault)
faults_of protocols doc = option_map (λ key. record { number = 3; key = key }) (unknown_key (known_keys doc) doc) ∷ first_some (key_faults protocols doc) ∷ count_fault protocols doc ∷ repeated_fault doc
    ∷ host_fault (links_of doc) ∷ pair_fault (unwrap_or (links_of doc) []) ∷ []

-- the ways of links without a fault
link_within : (link : Members) → link_fault link ≡ None → IsWay (way_of link)
link_within link h =
    let keys = no_first (option_map (λ _. 3) (unknown_key link_keys link)) _ h in
    let source = no_first (string_fault (λ _. true) wrong_type (get_member (codes "source") link)) _ keys.1 in
    let target = no_first (string_fault (λ _. true) wrong_type (get_member (codes "target") link)) _ source.1 in
    let least = no_first (whole_fault (is_within 0 60000) out_of_range (get_member (codes "latency_min") link)) _ target.1 in
    let greatest = no_first (whole_fault (is_within (whole (codes "latency_min") link) 60000) out_of_range (get_member (codes "latency_max") link)) _ least.1 in
    let loss = no_first (whole_fault (is_within 0 1000) out_of_range (get_member (codes "loss") link)) [] greatest.1 in
    let latency = number_within (whole (codes "latency_min") link) 60000 out_of_range (get_member (codes "latency_max") link) greatest.0 in
    record { order = latency.0; latency = latency.1; loss = (number_within 0 1000 out_of_range (get_member (codes "loss") link) loss.0).1 }

abbrev HasWay : LinkText → Type 0
HasWay link = IsWay link.way

abbrev GoesBy : Link → Type 0
GoesBy link = IsWay link.way

links_within : (tables : List Members) → first_some (map link_fault tables) ≡ None → AllByRecursion HasWay (map link_text tables)
links_within [] h = tt
links_within (link ∷ more) h = let first = no_first (link_fault link) (map link_fault more) h in (link_within link first.0, links_within more first.1)

links_listed : (found : Option (List Members)) → (elim found as (λ _. Option ℕ) [ None ↦ Some wrong_type | Some tables ↦ first_some (map link_fault tables) ]) ≡ None
    → AllByRecursion HasWay (map link_text (unwrap_or found []))
links_listed None h = tt
links_listed (Some tables) h = links_within tables h

links_found : (o : Option Data) → links_fault o ≡ None → AllByRecursion HasWay (map link_text (unwrap_or (option_and_then (list_of as_table) o) []))
links_found None h = tt
links_found (Some d) h = links_listed (list_of as_table d) h

links_in_limits : (two : Bool) (o : Option Data) → (if two then keyed (codes "link") (links_fault o) else None) ≡ None
    → AllByRecursion HasWay (if two then map link_text (unwrap_or (option_and_then (list_of as_table) o) []) else [])
links_in_limits true o h = links_found o (no_keyed (codes "link") (links_fault o) h)
links_in_limits false o h = tt

has_way : (names : List (List ℕ)) (text : LinkText) (x : Link) → HasWay text → link_between names text ≡ Some x → GoesBy x
has_way names text x within h = subst IsWay (sym (between-found text.way (position (same_key text.source) names) (position (same_key text.target) names) x h).2) within

links_of-within : (doc : Members) (o : Option (List Link)) → AllByRecursion HasWay (links doc) → links_of doc ≡ o → AllByRecursion GoesBy (unwrap_or o [])
links_of-within doc None within h = tt
links_of-within doc (Some found) within h = all_some-each (link_between (host_names doc)) HasWay GoesBy (has_way (host_names doc)) (links doc) found within h

-- a table with another way in it
set_keeps : (P : Way → Type 0) (ways : List Way) (i j : ℕ) (new d : Way) → P new → P (get_or ways i d) → P (get_or (set ways j new) i d)
set_keeps P [] i j new d n h = h
set_keeps P (x ∷ ways) zero zero new d n h = n
set_keeps P (x ∷ ways) (suc i) zero new d n h = h
set_keeps P (x ∷ ways) zero (suc j) new d n h = h
set_keeps P (x ∷ ways) (suc i) (suc j) new d n h = set_keeps P ways i j new d n h

with_links-within : (links : List Link) (ways : Ways) (a b : ℕ) → AllByRecursion GoesBy links → IsWay (way a b ways) → IsWay (way a b (with_links links ways))
with_links-within [] ways a b each h = h
with_links-within (link ∷ more) ways a b each h =
    with_links-within more (with_way link.source link.target link.way ways) a b each.1
    (set_keeps IsWay ways (direction a b) (direction link.source link.target) link.way at_once each.0 h)

latency_within : (two : Bool) (doc : Members) → (if two then at_key (codes "disk_latency") doc (whole_fault (is_within 0 60000) out_of_range) else None) ≡ None
    → (if two then whole (codes "disk_latency") doc else 0) ≤ 60000
latency_within true doc h = (whole_within (codes "disk_latency") 0 60000 out_of_range doc h).1
latency_within false doc h = omega arith

-- a document without a fault says a scenario within the limits
scenario_of-limits : (protocols : List Protocol) (doc : Members) → document_fault protocols doc ≡ None → IsWithinLimits (scenario_of protocols doc)
scenario_of-limits protocols doc h =
    let keys = none_at (key_faults protocols doc) (none_at (faults_of protocols doc) h 1) in
    let tick = whole_within (codes "tick") 1 60000 out_of_range doc (keys 3) in
    let latency_min = whole_within (codes "latency_min") 0 60000 out_of_range doc (keys 4) in
    let latency_max = whole_within (codes "latency_max") (whole (codes "latency_min") doc) 60000 out_of_range doc (keys 5) in
    let loss = whole_within (codes "loss") 0 1000 out_of_range doc (keys 6) in
    let servers = list_within names_fault as_str (get_member (codes "servers") doc) (no_keyed (codes "servers") _ (keys 7)) in
    let checkpoint = whole_within (codes "checkpoint") 1 1024 out_of_range doc (keys 8) in
    let window = whole_within (codes "window") 1 4096 out_of_range doc (keys 9) in
    let clients_are = list_within clients_fault as_table (get_member (codes "client") doc) (no_keyed (codes "client") _ (keys 10)) in
    let too_few = nat_lt (length (server_names doc)) (least_servers protocols (protocol_of protocols doc)) in
    let many : nat_lt 32 (length (host_names doc)) ≡ false = neither _ too_few (no_count (nat_lt 32 (length (host_names doc)) || too_few) (record { number = 11; key = codes "servers" }) (none_at (faults_of protocols doc) h 2)) in
    let hosts : length (host_names doc) ≤ 32 = ltb-false 32 (length (host_names doc)) many in
    let operations = map (whole (codes "ops")) (clients doc) in
    let size : length (host_names doc) ≡ length (server_names doc) + length (clients doc) =
    length-append (server_names doc) _ ∙ ap (λ n. length (server_names doc) + n) (length-map (clients doc) _) in
    let counted : length operations ≡ length (clients doc) = length-map (clients doc) (whole (codes "ops")) in
    record {
      tick = tick;
      ways = λ a b below_a below_b.
          with_links-within (unwrap_or (links_of doc) []) (all (way_of doc)) a b (links_of-within doc (links_of doc) (links_in_limits (is_format_2 doc) (get_member (codes "link") doc) (keys 12)) refl)
          (subst IsWay (sym (get_or-replicate 1024 (direction a b) (way_of doc) at_once (omega arith))) (record { order = latency_max.0; latency = latency_max.1; loss = loss.1 }));
      disk_latency = latency_within (is_format_2 doc) doc (keys 11);
      servers = servers.0;
      clients = omega (arith, size, clients_are.0);
      hosts = hosts;
      ops = λ h from below.
          subst (λ n. (1 ≤ n) × (n ≤ 1000)) (sym (ops_at (length (server_names doc)) operations h from (omega arith) (omega (arith, size, counted))))
          (clients_within (clients doc) clients_are.1 (h - length (server_names doc)) (omega (arith, size)));
      checkpoint = checkpoint;
      window = window;
    }

place_within : (b : Bool) (o : Option ℕ) (n : ℕ) → ((k : ℕ) → o ≡ Some k → k < n) → (k : ℕ)
    → (if b then Some 0 else option_map (λ place. place + 1) o) ≡ Some k → k < suc n
place_within true o n below k h = let zero_is : ◌≡◌ {A = ℕ} 0 k = cc in omega (arith, zero_is)
place_within false None n below k h = cc
place_within false (Some place) n below k h =
    let next : ◌≡◌ {A = ℕ} (place + 1) k = cc in
    omega (arith, next, below place refl)

-- the place of a protocol is in the list
pub place_named-within : (protocols : List Protocol) (name : List ℕ) (k : ℕ) → place_named protocols name ≡ Some k → k < length protocols
place_named-within [] name k h = cc
place_named-within (p ∷ ps) name k h = place_within (bytes_eq name p.name) (place_named ps name) (length ps) (place_named-within ps name) k h

named_within : (n : ℕ) (o : Option ℕ) → ((k : ℕ) → o ≡ Some k → k < n) → is_some o ≡ true → unwrap_or o 0 < n
named_within n None below h = cc
named_within n (Some k) below h = below k refl

protocol_within : (protocols : List Protocol) (o : Option Data) → string_fault (λ s. is_some (place_named protocols s)) 7 o ≡ None
    → unwrap_or (place_named protocols (unwrap_or (option_and_then as_str o) [])) 0 < length protocols
protocol_within protocols None h = cc
protocol_within protocols (Some (string s)) h =
    named_within (length protocols) (place_named protocols s) (place_named-within protocols s) (passed 7 (is_some (place_named protocols s)) h)
protocol_within protocols (Some (integer z)) h = cc
protocol_within protocols (Some (float x)) h = cc
protocol_within protocols (Some (boolean b)) h = cc
protocol_within protocols (Some (datetime d)) h = cc
protocol_within protocols (Some (array ds)) h = cc
protocol_within protocols (Some (table ms)) h = cc

scenario_of-known : (protocols : List Protocol) (doc : Members) → document_fault protocols doc ≡ None → (scenario_of protocols doc).protocol < length protocols
scenario_of-known protocols doc h =
    let keys = none_at (key_faults protocols doc) (none_at (faults_of protocols doc) h 1) in
    protocol_within protocols (get_member (codes "protocol") doc) (no_keyed (codes "protocol") _ (keys 2))

module _ (protocols : List Protocol) (P : ScenarioText → Type 0) (each : (doc : Members) → document_fault protocols doc ≡ None → P (scenario_of protocols doc)) where
  accepted : (doc : Members) (s : ScenarioText) (fault : Option Fault) → document_fault protocols doc ≡ fault
      → ◌≡◌ {A = Result ScenarioText Fault} (elim fault as (λ _. Result ScenarioText Fault) [ Some f ↦ Err f | None ↦ Ok (scenario_of protocols doc) ]) (Ok s) → P s
  accepted doc s None e h = let same : scenario_of protocols doc ≡ s = cc in subst P same (each doc e)
  accepted doc s (Some f) e h = cc

  read_document-each : (o : Option Members) (s : ScenarioText) (long : Bool) → cond long (Err (text_fault 1)) (read_document protocols o) ≡ Ok s → P s
  read_document-each o s true h = cc
  read_document-each None s false h = cc
  read_document-each (Some doc) s false h = accepted doc s (document_fault protocols doc) refl h

-- what is read is within the limits
pub read-limits : (protocols : List Protocol) (text : List ℕ) (s : ScenarioText) → read protocols text ≡ Ok s → IsWithinLimits s
read-limits protocols text s h = read_document-each protocols IsWithinLimits (scenario_of-limits protocols) (parse_document text) s (nat_lt 65536 (length text)) h

abbrev IsKnown : List Protocol → ScenarioText → Type 0
IsKnown protocols s = s.protocol < length protocols

-- its protocol is one of those that may be named
pub read-known : (protocols : List Protocol) (text : List ℕ) (s : ScenarioText) → read protocols text ≡ Ok s → s.protocol < length protocols
read-known protocols text s h = read_document-each protocols (IsKnown protocols) (scenario_of-known protocols) (parse_document text) s (nat_lt 65536 (length text)) h
