-- The parts of a document, one after the other, say what the list of checks says.
use Rattle.std.proofs.Common.{◌≡◌, ℕ, ◌≤◌, ◌++◌, Bool, true, false, cond, List, [], ◌∷◌, length, map, Option, Some, None, Result, Ok, Err, refl, sym, ap, ◌∙◌, codes}
use Rattle.std.specs.Prelude.{nat_lt, ◌||◌, is_some, replicate, if◌then◌else◌}
use Rattle.std.specs.Option.{unwrap_or, option_map}
use Rattle.std.specs.Result.{result_ok}
use Rattle.std.proofs.lemmas.Bool.{le-ltb}
use Rattle.hex.specs.Hex.{decode_of}
use Rattle.toml.specs.Data.{Members, as_str, as_table}
use Rattle.toml.specs.Parse.{parse_document}
use Rattle.sim_scenario.specs.declared.reading.Opening.{Opening}
use Rattle.sim_scenario.specs.declared.reading.Rest.{Rest}
use Rattle.sim_scenario.specs.Scenario.{Protocol, Fault, ScenarioText, first_some, key_faults, count_fault, repeated_fault, document_fault, scenario_of, read, read_document, text_fault, unknown_key, at_key, whole_fault, string_fault, list_fault, names_fault, clients_fault, is_within, out_of_range, is_seed, place_named, protocol_of, least_servers, whole, text_at, server_names, clients, repeated_from, first_32, known_keys, is_format_2, LinkText, Link, links, links_fault, links_between, links_of, host_fault, pair_fault, with_links, way_of, host_names}
use Rattle.sim_links.specs.declared.Way.{Way}
use Rattle.sim_links.specs.Ways.{Ways, all}
use Rattle.sim_scenario.proofs.Saying.{IsPart, Say, and, done, after}
use Rattle.sim_scenario.specs.Parts.{checked, ◌>>=◌, disk_latency_of, links_in, placed, linked_ways, ways_in, keys_of, format_of, seed_of, protocol_in, number_of, servers_of, clients_of, count_of, differing, joined_in, hosts_in, scenario_in}

keys_part : (doc : Members) → IsPart (keys_of doc) (option_map (λ key. record { number = 3; key = key }) (unknown_key (known_keys doc) doc)) tt
unfolding keys_of
keys_part doc = record { same = refl }

format_part : (doc : Members) → IsPart (format_of doc) (at_key (codes "format") doc (whole_fault (is_within 1 2) 8)) tt
unfolding format_of
format_part doc = record { same = refl }

seed_part : (doc : Members) → IsPart (seed_of doc) (at_key (codes "seed") doc (string_fault is_seed 6)) (unwrap_or (result_ok (decode_of (text_at (codes "seed") doc))) [])
unfolding seed_of
seed_part doc = record { same = refl }

protocol_part : (protocols : List Protocol) (doc : Members)
    → IsPart (protocol_in protocols doc) (at_key (codes "protocol") doc (string_fault (λ s. is_some (place_named protocols s)) 7)) (protocol_of protocols doc)
unfolding protocol_in
protocol_part protocols doc = record { same = refl }

number_part : (name : List ℕ) (low high : ℕ) (doc : Members) → IsPart (number_of name name low high doc) (at_key name doc (whole_fault (is_within low high) out_of_range)) (whole name doc)
unfolding number_of
number_part name low high doc = record { same = refl }

servers_part : (doc : Members) → IsPart (servers_of doc) (at_key (codes "servers") doc (list_fault names_fault as_str)) (server_names doc)
unfolding servers_of
servers_part doc = record { same = refl }

abbrev both : List (List ℕ) → List ℕ → List (List ℕ) × List ℕ
both names operations = (names, operations)

clients_part : (names : List (List ℕ)) (doc : Members)
    → IsPart (clients_of names doc) (at_key (codes "client") doc (list_fault clients_fault as_table)) (both (names ++ map (text_at (codes "name")) (clients doc)) (map (whole (codes "ops")) (clients doc)))
unfolding clients_of
clients_part names doc = record { same = refl }

count_part : (protocols : List Protocol) (protocol servers hosts : ℕ)
    → IsPart (count_of protocols protocol servers hosts) (if nat_lt 32 hosts || nat_lt servers (least_servers protocols protocol) then Some (record { number = 11; key = codes "servers" }) else None) tt
unfolding count_of
count_part protocols protocol servers hosts = record { same = refl }

differing_part : (servers : ℕ) (names : List (List ℕ))
    → IsPart (differing servers names) (option_map (λ k. record { number = 12; key = if nat_lt k servers then codes "servers" else codes "client" }) (repeated_from 0 [] names)) names
unfolding differing
differing_part servers names = record { same = refl }

-- a part of format 2 alone
chosen : {A : Type 0} (b : Bool) (fault : Option Fault) (value other : A) → IsPart (if b then checked fault value else Ok other) (if b then fault else None) (if b then value else other)
chosen true fault value other = record { same = refl }
chosen false fault value other = record { same = refl }

disk_latency_part : (doc : Members)
    → IsPart (disk_latency_of doc) (if is_format_2 doc then at_key (codes "disk_latency") doc (whole_fault (is_within 0 60000) out_of_range) else None)
    (if is_format_2 doc then whole (codes "disk_latency") doc else 0)
unfolding disk_latency_of number_of
disk_latency_part doc = chosen (is_format_2 doc) (at_key (codes "disk_latency") doc (whole_fault (is_within 0 60000) out_of_range)) (whole (codes "disk_latency") doc) 0

links_part : (doc : Members) → IsPart (links_in doc) (if is_format_2 doc then at_key (codes "link") doc links_fault else None) (links doc)
unfolding links_in
links_part doc = record { same = refl }

placed_part : (names : List (List ℕ)) (links : List LinkText) → IsPart (placed names links) (host_fault (links_between names links)) (unwrap_or (links_between names links) [])
unfolding placed
placed_part names links = record { same = refl }

ways_part : (way : Way) (links : List Link) → IsPart (linked_ways way links) (pair_fault links) (with_links links (all way))
unfolding linked_ways
ways_part way links = record { same = refl }

in_order : (protocols : List Protocol) (doc : Members)
    → Say (scenario_in protocols doc) (option_map (λ key. record { number = 3; key = key }) (unknown_key (known_keys doc) doc) ∷ (key_faults protocols doc ++ count_fault protocols doc ∷ repeated_fault doc ∷ host_fault (links_of doc) ∷ pair_fault (unwrap_or (links_of doc) []) ∷ [])) (scenario_of protocols doc)
unfolding scenario_in hosts_in joined_in
in_order protocols doc =
    and _ (keys_part doc) (and _ (format_part doc) (and _ (seed_part doc) (and _ (protocol_part protocols doc)
    (and _ (number_part (codes "tick") 1 60000 doc) (and _ (number_part (codes "latency_min") 0 60000 doc)
    (and _ (number_part (codes "latency_max") (whole (codes "latency_min") doc) 60000 doc) (and _ (number_part (codes "loss") 0 1000 doc)
    (and _ (servers_part doc) (and _ (number_part (codes "checkpoint") 1 1024 doc) (and _ (number_part (codes "window") 1 4096 doc)
    (and _ (clients_part (server_names doc) doc) (and _ (disk_latency_part doc) (and _ (links_part doc) (and _ (count_part protocols _ _ _) (and _ (differing_part _ _)
    (and _ (placed_part (host_names doc) (links doc)) (and _ (ways_part (way_of doc) (unwrap_or (links_of doc) [])) done)))))))))))))))))

read_document-checked : (protocols : List Protocol) (doc : Members) (fault : Option Fault) → (elim fault as (λ _. Result ScenarioText Fault) [ Some f ↦ Err f | None ↦ Ok (scenario_of protocols doc) ]) ≡ checked fault (scenario_of protocols doc)
read_document-checked protocols doc None = refl
read_document-checked protocols doc (Some f) = refl

-- what a text is read as, where it is a document
pub read_of_document : (protocols : List Protocol) (text : List ℕ) (doc : Members) → length text ≤ 65536 → parse_document text ≡ Some doc → read protocols text ≡ scenario_in protocols doc
read_of_document protocols text doc short parsed =
    ap (λ b. cond b (Err (text_fault 1)) (read_document protocols (parse_document text))) (le-ltb 65536 (length text) short)
    ∙ ap (read_document protocols) parsed
    ∙ read_document-checked protocols doc (document_fault protocols doc)
    ∙ ap (λ o. checked o (scenario_of protocols doc)) (sym (after (option_map (λ key. record { number = 3; key = key }) (unknown_key (known_keys doc) doc)) (key_faults protocols doc) (count_fault protocols doc ∷ repeated_fault doc ∷ host_fault (links_of doc) ∷ pair_fault (unwrap_or (links_of doc) []) ∷ [])))
    ∙ sym (in_order protocols doc).same

-- parts that say what is left of them
pub record Ends {A : Type 0} (parts end : Result A Fault) : Type 0 where
  pub same : parts ≡ end

last : {A : Type 0} {end : Result A Fault} → Ends end end
last = record { same = refl }

pub given : {A B : Type 0} {part : Result A Fault} {value : A} (next : A → Result B Fault) {end : Result B Fault} → part ≡ Ok value → Ends (next value) end → Ends (part >>= next) end
given next p e = record { same = ap (λ r. r >>= next) p ∙ e.same }

pub stopped : {A B : Type 0} {part : Result A Fault} {fault : Fault} (next : A → Result B Fault) → part ≡ Err fault → Ends (part >>= next) (Err fault)
stopped next p = record { same = ap (λ r. r >>= next) p }

-- two parts as one
within : {A B C : Type 0} (part : Result A Fault) (middle : A → Result B Fault) (next : B → Result C Fault) {end : Result C Fault}
    → Ends ((part >>= middle) >>= next) end → Ends (part >>= (λ a. middle a >>= next)) end
within (Ok a) middle next e = e
within (Err fault) middle next e = e

-- what a document says after its first parts
pub scenario_in-said : (protocols : List Protocol) (doc : Members) (seed : List ℕ) (protocol tick latency_min latency_max loss : ℕ)
    → keys_of doc ≡ Ok tt → format_of doc ≡ Ok tt → seed_of doc ≡ Ok seed → protocol_in protocols doc ≡ Ok protocol
    → number_of (codes "tick") (codes "tick") 1 60000 doc ≡ Ok tick
    → number_of (codes "latency_min") (codes "latency_min") 0 60000 doc ≡ Ok latency_min
    → number_of (codes "latency_max") (codes "latency_max") latency_min 60000 doc ≡ Ok latency_max
    → number_of (codes "loss") (codes "loss") 0 1000 doc ≡ Ok loss
    → scenario_in protocols doc ≡ hosts_in protocols (record { seed = seed; protocol = protocol; tick = tick; way = record { latency_min = latency_min; latency_max = latency_max; loss = loss } }) doc
unfolding scenario_in
scenario_in-said protocols doc seed protocol tick latency_min latency_max loss a b c d e f g h =
    (given _ a (given _ b (given _ c (given _ d (given _ e (given _ f (given _ g (given _ h last)))))))).same

-- what it says after its hosts and links
pub hosts_in-said : (protocols : List Protocol) (opening : Opening) (doc : Members) (servers : List (List ℕ)) (checkpoint window : ℕ) (hosts : List (List ℕ)) (operations : List ℕ) (disk_latency : ℕ) (texts : List LinkText)
    → servers_of doc ≡ Ok servers
    → number_of (codes "checkpoint") (codes "checkpoint") 1 1024 doc ≡ Ok checkpoint
    → number_of (codes "window") (codes "window") 1 4096 doc ≡ Ok window
    → clients_of servers doc ≡ Ok (both hosts operations)
    → disk_latency_of doc ≡ Ok disk_latency
    → links_in doc ≡ Ok texts
    → hosts_in protocols opening doc ≡ joined_in protocols opening (length servers) hosts operations (record { checkpoint = checkpoint; window = window; disk_latency = disk_latency }) texts
unfolding hosts_in
hosts_in-said protocols opening doc servers checkpoint window hosts operations disk_latency texts a b c d e f =
    (given _ a (given _ b (given _ c (given _ d (given _ e (given _ f last)))))).same

-- what it says where the hosts and the links are joined
pub joined_in-said : (protocols : List Protocol) (opening : Opening) (servers : ℕ) (hosts : List (List ℕ)) (operations : List ℕ) (rest : Rest) (texts : List LinkText) (names : List (List ℕ)) (ways : Ways)
    → count_of protocols opening.protocol servers (length hosts) ≡ Ok tt
    → differing servers hosts ≡ Ok names
    → ways_in opening.way names texts ≡ Ok ways
    → joined_in protocols opening servers hosts operations rest texts ≡ Ok (record {
      names = names;
      protocol = opening.protocol;
      seed = opening.seed;
      tick = opening.tick;
      ways = ways;
      disk_latency = rest.disk_latency;
      servers = servers;
      ops = first_32 (replicate servers 0 ++ operations);
      checkpoint = rest.checkpoint;
      window = rest.window;
    })
unfolding joined_in ways_in
joined_in-said protocols opening servers hosts operations rest texts names ways a b c =
    (given _ a (given _ b (within (placed names texts) (linked_ways opening.way) _ (given _ c last)))).same

-- where their number is not that of a scenario
pub joined_in-count : (protocols : List Protocol) (opening : Opening) (servers : ℕ) (hosts : List (List ℕ)) (operations : List ℕ) (rest : Rest) (texts : List LinkText) (fault : Fault)
    → count_of protocols opening.protocol servers (length hosts) ≡ Err fault
    → joined_in protocols opening servers hosts operations rest texts ≡ Err fault
unfolding joined_in
joined_in-count protocols opening servers hosts operations rest texts fault a = (stopped _ a).same

-- where two names are equal
pub joined_in-equal : (protocols : List Protocol) (opening : Opening) (servers : ℕ) (hosts : List (List ℕ)) (operations : List ℕ) (rest : Rest) (texts : List LinkText) (fault : Fault)
    → count_of protocols opening.protocol servers (length hosts) ≡ Ok tt
    → differing servers hosts ≡ Err fault
    → joined_in protocols opening servers hosts operations rest texts ≡ Err fault
unfolding joined_in
joined_in-equal protocols opening servers hosts operations rest texts fault a b = (given _ a (stopped _ b)).same

-- where the links between them make no ways
pub joined_in-astray : (protocols : List Protocol) (opening : Opening) (servers : ℕ) (hosts : List (List ℕ)) (operations : List ℕ) (rest : Rest) (texts : List LinkText) (names : List (List ℕ)) (fault : Fault)
    → count_of protocols opening.protocol servers (length hosts) ≡ Ok tt
    → differing servers hosts ≡ Ok names
    → ways_in opening.way names texts ≡ Err fault
    → joined_in protocols opening servers hosts operations rest texts ≡ Err fault
unfolding joined_in ways_in
joined_in-astray protocols opening servers hosts operations rest texts names fault a b c =
    (given _ a (given _ b (within (placed names texts) (linked_ways opening.way) _ (stopped _ c)))).same

-- a scenario with the same servers and operations
pub said_as : (s : ScenarioText) (servers : ℕ) (ops : List ℕ) → s.servers ≡ servers → s.ops ≡ ops
    → ◌≡◌ {A = Result ScenarioText Fault} (Ok s) (Ok (record s { servers = servers; ops = ops }))
said_as s servers ops a b = λ i. Ok (record s { servers = a i; ops = b i })
