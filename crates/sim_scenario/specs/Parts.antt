-- The parts of a document, one after the other: the value of a part, or its fault.
use Rattle.std.specs.Prelude.{ℕ, true, nat_lt, ◌||◌, codes, List, [], ◌∷◌, ◌++◌, length, map}
use Rattle.std.specs.Prelude.{replicate, Option, Some, None, is_some, Result, Ok, Err}
use Rattle.std.specs.Prelude.{if◌then◌else◌}
use Rattle.std.specs.Option.{unwrap_or, option_map}
use Rattle.std.specs.Result.{result_ok}
use Rattle.hex.specs.Hex.{decode_of}
use Rattle.toml.specs.Data.{Members, get_member, as_str, as_table}
use Rattle.sim_links.specs.declared.Way.{Way}
use Rattle.sim_links.specs.Ways.{Ways, all}
use Rattle.sim_scenario.specs.declared.reading.Opening.{Opening}
use Rattle.sim_scenario.specs.declared.reading.Rest.{Rest}
use Rattle.sim_scenario.specs.Scenario.{Fault, ScenarioText, LinkText, Link, known_keys}
use Rattle.sim_scenario.specs.Scenario.{client_keys, link_keys, is_format_2, links_fault}
use Rattle.sim_scenario.specs.Scenario.{links, links_between, host_fault, pair_fault}
use Rattle.sim_scenario.specs.Scenario.{with_links, unknown_key, keyed, at_key, whole_fault}
use Rattle.sim_scenario.specs.Scenario.{string_fault, list_fault, names_fault, clients_fault}
use Rattle.sim_scenario.specs.Scenario.{is_name, is_within, wrong_type, out_of_range, is_seed}
use Rattle.sim_scenario.specs.Scenario.{Protocol, place_named, protocol_of, least_servers, whole}
use Rattle.sim_scenario.specs.Scenario.{text_at, server_names, clients, repeated_from, first_32}

-- a value, if there is no fault
abbrev pub checked : {A : Type 0} → Option Fault → A → Result A Fault
checked None value = Ok value
checked (Some fault) value = Err fault

infixl 10 ◌>>=◌
abbrev pub ◌>>=◌ : {A B : Type 0} → Result A Fault → (A → Result B Fault) → Result B Fault
(Ok x) >>= f = f x
(Err e) >>= f = Err e

unfoldable pub keys_of : Members → Result (Unit {0}) Fault
keys_of doc =
    checked (option_map (λ key. record { number = 3; key = key })
    (unknown_key (known_keys doc) doc)) tt

unfoldable pub format_of : Members → Result (Unit {0}) Fault
format_of doc = checked (at_key (codes "format") doc (whole_fault (is_within 1 2) 8)) tt

unfoldable pub seed_of : Members → Result (List ℕ) Fault
seed_of doc =
    checked (at_key (codes "seed") doc (string_fault is_seed 6))
    (unwrap_or (result_ok (decode_of (text_at (codes "seed") doc))) [])

-- the number at a key, whose faults are written with another key
unfoldable pub number_of : List ℕ → List ℕ → ℕ → ℕ → Members → Result ℕ Fault
number_of name key low high doc =
    checked (keyed key (whole_fault (is_within low high) out_of_range (get_member name doc)))
    (whole name doc)

unfoldable pub servers_of : Members → Result (List (List ℕ)) Fault
servers_of doc =
    checked (at_key (codes "servers") doc (list_fault names_fault as_str)) (server_names doc)

-- a client's keys, its name, and then its operations
unfoldable pub client_keys_of : Members → Result (Unit {0}) Fault
client_keys_of client =
    checked (keyed (codes "client") (option_map (λ _. 3) (unknown_key client_keys client))) tt

unfoldable pub client_name_of : Members → Result (List ℕ) Fault
client_name_of client =
    checked (keyed (codes "client") (string_fault is_name 10 (get_member (codes "name") client)))
    (text_at (codes "name") client)

unfoldable pub client_of : Members → Result (List ℕ × ℕ) Fault
client_of client = do
  known ← client_keys_of client
  name ← client_name_of client
  operations ← number_of (codes "ops") (codes "client") 1 1000 client
  Ok (name, operations)

-- some clients after those with these names and operations
unfoldable pub listed : List (List ℕ) → List ℕ → List Members → Result
    (List (List ℕ) × List ℕ) Fault
listed names operations [] = Ok (names, operations)
listed names operations (client ∷ more) = do
  first ← client_of client
  listed (names ++ first.0 ∷ []) (operations ++ first.1 ∷ []) more

-- the names, followed by those of the clients, and the operations of the clients
unfoldable pub clients_of : List (List ℕ) → Members → Result (List (List ℕ) × List ℕ) Fault
clients_of names doc =
    checked (at_key (codes "client") doc (list_fault clients_fault as_table)) (
      names ++ map (text_at (codes "name")) (clients doc),
      map (whole (codes "ops")) (clients doc),
    )

-- the latency of a sync, which only format 2 gives
unfoldable pub disk_latency_of : Members → Result ℕ Fault
disk_latency_of doc =
    if is_format_2 doc then number_of (codes "disk_latency") (codes "disk_latency") 0 60000 doc
    else Ok 0

-- a link's keys, its hosts, and then its way
unfoldable pub link_keys_of : Members → Result (Unit {0}) Fault
link_keys_of link =
    checked (keyed (codes "link") (option_map (λ _. 3) (unknown_key link_keys link))) tt

unfoldable pub link_host_of : List ℕ → Members → Result (List ℕ) Fault
link_host_of name link =
    checked (keyed (codes "link") (string_fault (λ _. true) wrong_type (get_member name link)))
    (text_at name link)

unfoldable pub link_number_of : List ℕ → ℕ → ℕ → Members → Result ℕ Fault
link_number_of name low high link = number_of name (codes "link") low high link

unfoldable pub link_way_of : Members → Result Way Fault
link_way_of link = do
  latency_min ← link_number_of (codes "latency_min") 0 60000 link
  latency_max ← link_number_of (codes "latency_max") latency_min 60000 link
  loss ← link_number_of (codes "loss") 0 1000 link
  Ok (record { latency_min = latency_min; latency_max = latency_max; loss = loss })

unfoldable pub link_of : Members → Result LinkText Fault
link_of link = do
  known ← link_keys_of link
  source ← link_host_of (codes "source") link
  target ← link_host_of (codes "target") link
  way ← link_way_of link
  Ok (record { source = source; target = target; way = way })

-- some links after those read so far
unfoldable pub linked : List LinkText → List Members → Result (List LinkText) Fault
linked done [] = Ok done
linked done (link ∷ more) = do
  first ← link_of link
  linked (done ++ first ∷ []) more

-- the links, which only format 2 gives
unfoldable pub links_in : Members → Result (List LinkText) Fault
links_in doc =
    checked (if is_format_2 doc then at_key (codes "link") doc links_fault else None) (links doc)

-- each link goes from one host to another
unfoldable pub placed : List (List ℕ) → List LinkText → Result (List Link) Fault
placed names links =
    checked (host_fault (links_between names links)) (unwrap_or (links_between names links) [])

-- no two links are of the same pair
unfoldable pub linked_ways : Way → List Link → Result Ways Fault
linked_ways way links = checked (pair_fault links) (with_links links (all way))

-- the links between the hosts, and the ways that they make
unfoldable pub ways_in : Way → List (List ℕ) → List LinkText → Result Ways Fault
ways_in way names links = do
  between ← placed names links
  linked_ways way between

-- no two names are equal
unfoldable pub differing : ℕ → List (List ℕ) → Result (List (List ℕ)) Fault
differing servers names =
    checked (option_map (λ k. record {
      number = 12;
      key = if nat_lt k servers then codes "servers" else codes "client";
    }) (repeated_from 0 [] names)) names

-- A text names one of these protocols.
module _ (protocols : List Protocol) where
  unfoldable pub protocol_in : Members → Result ℕ Fault
  protocol_in doc =
      checked (at_key (codes "protocol") doc (string_fault (λ s. is_some (place_named protocols s))
      7)) (protocol_of protocols doc)

  -- the numbers of hosts and of servers are within the limits
  unfoldable pub count_of : ℕ → ℕ → ℕ → Result (Unit {0}) Fault
  count_of protocol servers hosts =
      checked (if nat_lt 32 hosts || nat_lt servers (least_servers protocols protocol) then Some
      (record { number = 11; key = codes "servers" }) else None) tt

  -- the number of hosts, their names, and the links between them
  unfoldable pub joined_in : Opening → ℕ → List (List ℕ) → List ℕ → Rest → List LinkText
      → Result ScenarioText Fault
  joined_in opening servers hosts operations rest links = do
    fitting ← count_of opening.protocol servers (length hosts)
    names ← differing servers hosts
    between ← placed names links
    ways ← linked_ways opening.way between
    Ok (record {
      names = names;
      protocol = opening.protocol;
      seed = opening.seed;
      tick = opening.tick;
      ways = ways;
      disk_latency = rest.disk_latency;
      servers = servers;
      ops = first_32 (replicate servers 0 ++ operations);
      checkpoint = rest.checkpoint;
      window = rest.window;
    })

  -- the hosts and the links, and the parts between them
  unfoldable pub hosts_in : Opening → Members → Result ScenarioText Fault
  hosts_in opening doc = do
    servers ← servers_of doc
    checkpoint ← number_of (codes "checkpoint") (codes "checkpoint") 1 1024 doc
    window ← number_of (codes "window") (codes "window") 1 4096 doc
    hosts ← clients_of servers doc
    disk_latency ← disk_latency_of doc
    links ← links_in doc
    joined_in opening (length servers) hosts.0 hosts.1 (record {
      checkpoint = checkpoint;
      window = window;
      disk_latency = disk_latency;
    }) links

  -- the scenario of a document, part by part
  unfoldable pub scenario_in : Members → Result ScenarioText Fault
  scenario_in doc = do
    known ← keys_of doc
    format ← format_of doc
    seed ← seed_of doc
    protocol ← protocol_in doc
    tick ← number_of (codes "tick") (codes "tick") 1 60000 doc
    latency_min ← number_of (codes "latency_min") (codes "latency_min") 0 60000 doc
    latency_max ← number_of (codes "latency_max") (codes "latency_max") latency_min 60000 doc
    loss ← number_of (codes "loss") (codes "loss") 0 1000 doc
    hosts_in (record {
      seed = seed;
      protocol = protocol;
      tick = tick;
      way = record { latency_min = latency_min; latency_max = latency_max; loss = loss };
    }) doc
