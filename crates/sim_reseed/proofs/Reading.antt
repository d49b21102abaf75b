-- What a document with another seed is read as.
use Rattle.std.proofs.Common.{◌≡◌, ℕ, ◌==◌, ◌||◌, ◌++◌, List, [], ◌∷◌, Option, Some, None, false, map, length, replicate, refl, sym, ap, ◌∙◌, codes}
use Rattle.std.specs.Prelude.{pos, negsuc, if◌then◌else◌, nat_lt, is_some}
use Rattle.std.specs.Option.{option_map, option_and_then, unwrap_or}
use Rattle.std.specs.Result.{result_ok}
use Rattle.hex.specs.Hex.{decode_of}
use Rattle.sim_links.specs.Ways.{all}
use Rattle.toml.specs.Data.{Data, Members, get_member, same_key, as_str, as_table, as_integer}
use Rattle.sim_scenario.specs.Scenario.{Protocol, first_some, keyed, whole_fault, string_fault, list_fault, is_within, names_fault, clients_fault, out_of_range, place_named, least_servers, links_between, links_fault, repeated_from, first_32, list_of, unknown_key, whole, text_at, server_names, clients, host_names, protocol_of, way_of, is_format_2, known_keys, link_tables, links, links_of, link_text, with_links, ways_of, top_keys, format_2_keys, at_key, key_faults, count_fault, repeated_fault, host_fault, pair_fault, document_fault, scenario_of, is_seed}

-- the other document has the same keys, and the same values but for the seed, which is sound in both
pub record IsReseeded (old new : Members) : Type 0 where
  pub keys : (known : List (List ℕ)) → unknown_key known new ≡ unknown_key known old
  pub values : (key : List ℕ) → same_key key (codes "seed") ≡ false → get_member key new ≡ get_member key old
  pub sound : string_fault is_seed 6 (get_member (codes "seed") old) ≡ None
  pub sound_too : string_fault is_seed 6 (get_member (codes "seed") new) ≡ None

-- the number of a value
abbrev number_in : Option Data → ℕ
number_in o = elim (option_and_then as_integer o) [ None ↦ 0 | Some z ↦ elim z [ pos n ↦ n | negsuc n ↦ 0 ] ]

module _ (old new : Members) (h : IsReseeded old new) where
  whole-same : (key : List ℕ) → same_key key (codes "seed") ≡ false → whole key new ≡ whole key old
  whole-same key e = ap number_in (h.values key e)

  text-same : (key : List ℕ) → same_key key (codes "seed") ≡ false → text_at key new ≡ text_at key old
  text-same key e = ap (λ o. unwrap_or (option_and_then as_str o) []) (h.values key e)

  format-same : is_format_2 new ≡ is_format_2 old
  format-same = ap (λ n. n == 2) (whole-same (codes "format") refl)

  servers-same : server_names new ≡ server_names old
  servers-same = ap (λ o. unwrap_or (option_and_then (list_of as_str) o) []) (h.values (codes "servers") refl)

  clients-same : clients new ≡ clients old
  clients-same = ap (λ o. unwrap_or (option_and_then (list_of as_table) o) []) (h.values (codes "client") refl)

  hosts-same : host_names new ≡ host_names old
  hosts-same = λ i. servers-same i ++ map (text_at (codes "name")) (clients-same i)

  protocol-same : (protocols : List Protocol) → protocol_of protocols new ≡ protocol_of protocols old
  protocol-same protocols = ap (λ name. unwrap_or (place_named protocols name) 0) (text-same (codes "protocol") refl)

  tables-same : link_tables new ≡ link_tables old
  tables-same = ap (λ o. unwrap_or (option_and_then (list_of as_table) o) []) (h.values (codes "link") refl)

  links-same : links new ≡ links old
  links-same = λ i. if format-same i then map link_text (tables-same i) else []

  linked-same : links_of new ≡ links_of old
  linked-same = λ i. links_between (hosts-same i) (links-same i)

  way-same : way_of new ≡ way_of old
  way-same = λ i. record {
    latency_min = whole-same (codes "latency_min") refl i;
    latency_max = whole-same (codes "latency_max") refl i;
    loss = whole-same (codes "loss") refl i;
  }

  ways-same : ways_of new ≡ ways_of old
  ways-same = λ i. with_links (unwrap_or (linked-same i) []) (all (way-same i))

  at-same : (key : List ℕ) (fault : Option Data → Option ℕ) → same_key key (codes "seed") ≡ false → at_key key new fault ≡ at_key key old fault
  at-same key fault e = ap (λ o. keyed key (fault o)) (h.values key e)

  keys-same : (protocols : List Protocol) → key_faults protocols new ≡ key_faults protocols old
  keys-same protocols = λ i.
      at-same (codes "format") (whole_fault (is_within 1 2) 8) refl i
      ∷ keyed (codes "seed") ((h.sound_too ∙ sym h.sound) i)
      ∷ at-same (codes "protocol") (string_fault (λ s. is_some (place_named protocols s)) 7) refl i
      ∷ at-same (codes "tick") (whole_fault (is_within 1 60000) out_of_range) refl i
      ∷ at-same (codes "latency_min") (whole_fault (is_within 0 60000) out_of_range) refl i
      ∷ keyed (codes "latency_max") (whole_fault (is_within (whole-same (codes "latency_min") refl i) 60000) out_of_range (h.values (codes "latency_max") refl i))
      ∷ at-same (codes "loss") (whole_fault (is_within 0 1000) out_of_range) refl i
      ∷ at-same (codes "servers") (list_fault names_fault as_str) refl i
      ∷ at-same (codes "checkpoint") (whole_fault (is_within 1 1024) out_of_range) refl i
      ∷ at-same (codes "window") (whole_fault (is_within 1 4096) out_of_range) refl i
      ∷ at-same (codes "client") (list_fault clients_fault as_table) refl i
      ∷ (if format-same i then at-same (codes "disk_latency") (whole_fault (is_within 0 60000) out_of_range) refl i else None)
      ∷ (if format-same i then at-same (codes "link") links_fault refl i else None)
      ∷ []

  count-same : (protocols : List Protocol) → count_fault protocols new ≡ count_fault protocols old
  count-same protocols = λ i.
      if nat_lt 32 (length (hosts-same i)) || nat_lt (length (servers-same i)) (least_servers protocols (protocol-same protocols i))
      then Some (record { number = 11; key = codes "servers" }) else None

  repeated-same : repeated_fault new ≡ repeated_fault old
  repeated-same = λ i.
      option_map (λ k. record { number = 12; key = if nat_lt k (length (servers-same i)) then codes "servers" else codes "client" }) (repeated_from 0 [] (hosts-same i))

  unknown-same : unknown_key (known_keys new) new ≡ unknown_key (known_keys old) old
  unknown-same = h.keys (known_keys new) ∙ ap (λ format_2. unknown_key (if format_2 then top_keys ++ format_2_keys else top_keys) old) format-same

  pub fault-same : (protocols : List Protocol) → document_fault protocols new ≡ document_fault protocols old
  fault-same protocols = λ i. first_some
      (option_map (λ key. record { number = 3; key = key }) (unknown-same i)
      ∷ first_some (keys-same protocols i)
      ∷ count-same protocols i
      ∷ repeated-same i
      ∷ host_fault (linked-same i)
      ∷ pair_fault (unwrap_or (linked-same i) [])
      ∷ [])

  -- the scenario differs in its seed alone
  pub scenario-same : (protocols : List Protocol) (seed : List ℕ) → unwrap_or (result_ok (decode_of (text_at (codes "seed") new))) [] ≡ seed
      → scenario_of protocols new ≡ record (scenario_of protocols old) { seed = seed }
  scenario-same protocols seed e = λ i. record {
    names = hosts-same i;
    protocol = protocol-same protocols i;
    seed = e i;
    tick = whole-same (codes "tick") refl i;
    ways = ways-same i;
    disk_latency = if format-same i then whole-same (codes "disk_latency") refl i else 0;
    servers = length (servers-same i);
    ops = first_32 (replicate (length (servers-same i)) 0 ++ map (whole (codes "ops")) (clients-same i));
    checkpoint = whole-same (codes "checkpoint") refl i;
    window = whole-same (codes "window") refl i;
  }
