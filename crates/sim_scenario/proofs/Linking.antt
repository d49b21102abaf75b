-- The links of a document, one after the other.
use Rattle.std.proofs.Common.{◌≡◌, ℕ, ◌+◌, ◌-◌, ◌<◌, ◌≤◌, zero, suc, Bool, true, false, List, [], ◌∷◌, ◌++◌, length, map, take, drop, get_or, Option, Some, None, Result, Ok, Err, refl, sym, ap, subst, ◌∙◌, append_assoc, codes, arith}
use Rattle.std.specs.Prelude.{All, ◌==◌, ◌||◌, nat_lt, if◌then◌else◌}
use Rattle.std.specs.Option.{unwrap_or, option_map, option_and_then}
use Rattle.std.specs.List.{AllByRecursion, list_any, position}
use Rattle.std.proofs.lemmas.List.{append-nil, drop_more, take_all, length-drop}
use Rattle.std.proofs.lemmas.List.Quantifiers.{position-Some}
use Rattle.toml.specs.Data.{Data, Members, same_key, get_member, as_table}
use Rattle.sim_links.specs.declared.Way.{Way}
use Rattle.sim_links.specs.Ways.{Ways, all, with_way}
use Rattle.sim_scenario.specs.declared.links.LinkText.{LinkText as ReadText}
use Rattle.sim_scenario.specs.declared.links.Link.{Link as ReadLink}
use Rattle.sim_scenario.specs.Links.{link_said, link_seen, IsInTable}
use Rattle.sim_scenario.specs.Scenario.{Fault, LinkText, Link, keyed, first_some, wrong_type, list_of, all_some, unknown_key, string_fault, whole_fault, is_within, out_of_range, text_at, whole, is_format_2, link_keys, link_fault, links_fault, link_text, way_of, links, is_same_pair, is_repeated, with_links, between, link_between, links_between, repeated_from, host_fault}
use Rattle.sim_scenario.specs.Parts.{checked, ◌>>=◌, link_of, link_way_of, link_number_of, link_keys_of, link_host_of, number_of, linked, links_in, placed, linked_ways, differing}
use Rattle.sim_scenario.proofs.Arrays.{with_rest, read_more, read_stop}
use Rattle.sim_scenario.proofs.Saying.{IsPart, Say, and, done, first_some-keyed}

keys_part : (link : Members) → IsPart (link_keys_of link) (keyed (codes "link") (option_map (λ _. 3) (unknown_key link_keys link))) tt
unfolding link_keys_of
keys_part link = record { same = refl }

host_part : (name : List ℕ) (link : Members) → IsPart (link_host_of name link) (keyed (codes "link") (string_fault (λ _. true) wrong_type (get_member name link))) (text_at name link)
unfolding link_host_of
host_part name link = record { same = refl }

number_part : (name : List ℕ) (low high : ℕ) (link : Members)
    → IsPart (link_number_of name low high link) (keyed (codes "link") (whole_fault (is_within low high) out_of_range (get_member name link))) (whole name link)
unfolding link_number_of number_of
number_part name low high link = record { same = refl }

abbrev way_faults : Members → List (Option ℕ)
way_faults link =
    whole_fault (is_within 0 60000) out_of_range (get_member (codes "latency_min") link)
    ∷ whole_fault (is_within (whole (codes "latency_min") link) 60000) out_of_range (get_member (codes "latency_max") link)
    ∷ whole_fault (is_within 0 1000) out_of_range (get_member (codes "loss") link)
    ∷ []

abbrev link_faults : Members → List (Option ℕ)
link_faults link =
    option_map (λ _. 3) (unknown_key link_keys link)
    ∷ string_fault (λ _. true) wrong_type (get_member (codes "source") link)
    ∷ string_fault (λ _. true) wrong_type (get_member (codes "target") link)
    ∷ way_faults link

abbrev way_with : ℕ → ℕ → ℕ → Way
way_with n m k = record { latency_min = n; latency_max = m; loss = k }

abbrev next_numbers : Members → ℕ → Result Way Fault
next_numbers link n = link_number_of (codes "latency_max") n 60000 link >>= (λ m. link_number_of (codes "loss") 0 1000 link >>= (λ k. Ok (way_with n m k)))

abbrev last_number : Members → ℕ → ℕ → Result Way Fault
last_number link n m = link_number_of (codes "loss") 0 1000 link >>= (λ k. Ok (way_with n m k))

-- a link's way, where the first numbers are there
pub way_from : (link : Members) (n : ℕ) (r : Result ℕ Fault) → link_number_of (codes "latency_min") 0 60000 link ≡ Ok n → link_number_of (codes "latency_max") n 60000 link ≡ r
    → link_way_of link ≡ (r >>= last_number link n)
unfolding link_way_of
way_from link n r a b = ap (λ x. x >>= next_numbers link) a ∙ ap (λ x. x >>= last_number link n) b

pub way_to_end : (link : Members) (n m : ℕ) (r : Result ℕ Fault) → link_number_of (codes "latency_min") 0 60000 link ≡ Ok n → link_number_of (codes "latency_max") n 60000 link ≡ Ok m
    → link_number_of (codes "loss") 0 1000 link ≡ r → link_way_of link ≡ (r >>= (λ k. Ok (way_with n m k)))
way_to_end link n m r a b d = way_from link n (Ok m) a b ∙ ap (λ x. x >>= (λ k. Ok (way_with n m k))) d

way_in_order : (link : Members) → Say (link_way_of link) (map (keyed (codes "link")) (way_faults link)) (way_of link)
unfolding link_way_of
way_in_order link =
    and _ (number_part (codes "latency_min") 0 60000 link)
    (and _ (number_part (codes "latency_max") (whole (codes "latency_min") link) 60000 link) (and _ (number_part (codes "loss") 0 1000 link) done))

-- a part, and then parts of which the last says the value
say_bound : {A B : Type 0} {part : Result A Fault} {faults : List (Option Fault)} {value : A} (f : A → B) → Say part faults value → Say (part >>= (λ x. Ok (f x))) faults (f value)
say_bound {faults = faults} {value = value} f s = record { same = ap (λ r. r >>= (λ x. Ok (f x))) s.same ∙ by (first_some faults) }
  where
    by : (o : Option Fault) → (checked o value >>= (λ x. Ok (f x))) ≡ checked o (f value)
    by None = refl
    by (Some fault) = refl

in_order : (link : Members) → Say (link_of link) (map (keyed (codes "link")) (link_faults link)) (link_text link)
unfolding link_of
in_order link = and _ (keys_part link) (and _ (host_part (codes "source") link) (and _ (host_part (codes "target") link) (say_bound _ (way_in_order link))))

link_of-checked : (link : Members) → link_of link ≡ checked (keyed (codes "link") (link_fault link)) (link_text link)
link_of-checked link = (in_order link).same ∙ ap (λ o. checked o (link_text link)) (first_some-keyed (codes "link") (link_faults link))

-- one more link, a link with a fault, and all of them
pub linked_more : (had : List LinkText) (link : Members) (more : List Members) (said : LinkText) → link_of link ≡ Ok said → linked had (link ∷ more) ≡ linked (had ++ said ∷ []) more
unfolding linked
linked_more had link more said e = ap (λ r. r >>= (λ first. linked (had ++ first ∷ []) more)) e

pub linked_stop : (had : List LinkText) (link : Members) (more : List Members) (fault : Fault) → link_of link ≡ Err fault → linked had (link ∷ more) ≡ Err fault
unfolding linked
linked_stop had link more fault e = ap (λ r. r >>= (λ first. linked (had ++ first ∷ []) more)) e

pub linked_all : (had : List LinkText) → linked had [] ≡ Ok had
unfolding linked
linked_all had = refl

abbrev faults_of : List Members → Option ℕ
faults_of tables = first_some (map link_fault tables)

next_linked : (had : List LinkText) (link : Members) (more : List Members) (o : Option ℕ)
    → linked (had ++ link_text link ∷ []) more ≡ checked (keyed (codes "link") (faults_of more)) ((had ++ link_text link ∷ []) ++ map link_text more)
    → (checked (keyed (codes "link") o) (link_text link) >>= (λ first. linked (had ++ first ∷ []) more))
    ≡ checked (keyed (codes "link") (first_some (o ∷ map link_fault more))) (had ++ map link_text (link ∷ more))
next_linked had link more (Some f) ih = refl
next_linked had link more None ih = ih ∙ ap (λ ts. checked (keyed (codes "link") (faults_of more)) ts) (append_assoc had (link_text link ∷ []) (map link_text more))

-- what the links say together: the first fault, or all of them
linked-checked : (had : List LinkText) (tables : List Members) → linked had tables ≡ checked (keyed (codes "link") (faults_of tables)) (had ++ map link_text tables)
unfolding linked
linked-checked had [] = ap Ok (sym (append-nil had))
linked-checked had (link ∷ more) =
    ap (λ r. r >>= (λ first. linked (had ++ first ∷ []) more)) (link_of-checked link)
    ∙ next_linked had link more (link_fault link) (linked-checked (had ++ link_text link ∷ []) more)

abbrev links_by : Bool → Option Data → Result (List LinkText) Fault
links_by b o =
    checked (if b then keyed (codes "link") (links_fault o) else None) (if b then map link_text (unwrap_or (option_and_then (list_of as_table) o) []) else [])

-- a text of format 1, and one without links
pub links_of_format_1 : (doc : Members) → is_format_2 doc ≡ false → links_in doc ≡ Ok []
unfolding links_in
links_of_format_1 doc h = ap (λ b. links_by b (get_member (codes "link") doc)) h

pub links_missing : (doc : Members) → is_format_2 doc ≡ true → get_member (codes "link") doc ≡ None → links_in doc ≡ Ok []
unfolding links_in
links_missing doc h at = ap (λ b. links_by b (get_member (codes "link") doc)) h ∙ ap (links_by true) at

abbrev links_from : Option (List Members) → Result (List LinkText) Fault
links_from o = checked (keyed (codes "link") (elim o [ None ↦ Some wrong_type | Some tables ↦ first_some (map link_fault tables) ])) (map link_text (unwrap_or o []))

-- the value at the key is no array of tables
pub links_untyped : (doc : Members) (d : Data) → is_format_2 doc ≡ true → get_member (codes "link") doc ≡ Some d → list_of as_table d ≡ None → links_in doc ≡ Err (record { number = 5; key = codes "link" })
unfolding links_in
links_untyped doc d h at e = ap (λ b. links_by b (get_member (codes "link") doc)) h ∙ ap (links_by true) at ∙ ap links_from e

-- it is an array of these tables
pub links_said : (doc : Members) (d : Data) (tables : List Members) → is_format_2 doc ≡ true → get_member (codes "link") doc ≡ Some d → list_of as_table d ≡ Some tables → links_in doc ≡ linked [] tables
unfolding links_in
links_said doc d tables h at e = ap (λ b. links_by b (get_member (codes "link") doc)) h ∙ ap (links_by true) at ∙ ap links_from e ∙ sym (linked-checked [] tables)

-- a link of the reader among hosts with these names
abbrev pub placed_in : List (List ℕ) → ReadText → Option Link
placed_in names link = link_between names (link_said link)

all_some-map : {A B C : Type 0} (f : B → Option C) (g : A → B) (xs : List A) → all_some f (map g xs) ≡ all_some (λ x. f (g x)) xs
all_some-map f g [] = refl
all_some-map f g (x ∷ xs) = ap (λ o. option_and_then (λ y. option_map (λ ys. y ∷ ys) o) (f (g x))) (all_some-map f g xs)

-- what the links are, where all or not all of them go from one host to another
pub placed_as : (names : List (List ℕ)) (texts : List ReadText) (o : Option (List Link)) → all_some (placed_in names) texts ≡ o → placed names (map link_said texts) ≡ checked (host_fault o) (unwrap_or o [])
unfolding placed
placed_as names texts o h = ap (λ found. checked (host_fault found) (unwrap_or found [])) (all_some-map (link_between names) link_said texts ∙ h)

each_cons : {B : Type 0} (P : B → Type 0) (y : B) (rest ys : List B) → P y → AllByRecursion P rest → y ∷ rest ≡ ys → AllByRecursion P ys
each_cons P y rest ys p r e = subst (AllByRecursion P) e (p, r)

each_split : {B : Type 0} (P : B → Type 0) (ys : List B) (o : Option B) (rest : Option (List B)) → ((y : B) → o ≡ Some y → P y) → ((zs : List B) → rest ≡ Some zs → AllByRecursion P zs)
    → option_and_then (λ y. option_map (λ zs. y ∷ zs) rest) o ≡ Some ys → AllByRecursion P ys
each_split P ys None rest a b e = cc
each_split P ys (Some y) None a b e = cc
each_split P ys (Some y) (Some zs) a b e = each_cons P y zs ys (a y refl) (b zs refl) cc

-- what is true of each of some values that are found
pub all_some-each : {A B : Type 0} (f : A → Option B) (Q : A → Type 0) (P : B → Type 0) → ((x : A) (y : B) → Q x → f x ≡ Some y → P y)
    → (xs : List A) (ys : List B) → AllByRecursion Q xs → all_some f xs ≡ Some ys → AllByRecursion P ys
all_some-each f Q P each [] [] q h = tt
all_some-each f Q P each [] (y ∷ ys) q h = cc
all_some-each f Q P each (x ∷ xs) ys q h = each_split P ys (f x) (all_some f xs) (λ y. each x y q.0) (λ zs. all_some-each f Q P each xs zs q.1) h

-- a link that is found has the numbers of its hosts, and its way
pub between-found : (way : Way) (a b : Option ℕ) (x : Link) → between way a b ≡ Some x → (a ≡ Some x.source) × (b ≡ Some x.target) × (x.way ≡ way)
between-found way None b x h = cc
between-found way (Some a) None x h = cc
between-found way (Some a) (Some b) x h = by (a == b) h
  where
    by : (same : Bool) → (if same then None else Some (record { source = a; target = b; way = way })) ≡ Some x → (Some a ≡ Some x.source) × (Some b ≡ Some x.target) × (x.way ≡ way)
    by true e = cc
    by false e =
        let link : Link = record { source = a; target = b; way = way } in
        let same : link ≡ x = cc in
        (ap (λ (l : Link). Some l.source) same, ap (λ (l : Link). Some l.target) same, ap (λ (l : Link). l.way) (sym same))

abbrev InTable : Link → Type 0
InTable link = (link.source < 32) × (link.target < 32)

always : {X : Type 0} (xs : List X) → AllByRecursion (λ _. Unit {0}) xs
always [] = tt
always (x ∷ xs) = (tt, always xs)

each_in_table : (names : List (List ℕ)) → length names ≤ 32 → (text : LinkText) (x : Link) → Unit {0} → link_between names text ≡ Some x → InTable x
each_in_table names few text x u h =
    let found = between-found text.way (position (same_key text.source) names) (position (same_key text.target) names) x h in
    let source = (position-Some (same_key text.source) names x.source [] found.0).0 in
    let target = (position-Some (same_key text.target) names x.target [] found.1).0 in
    (omega (arith, source, few), omega (arith, target, few))

found_all : (o : Option (List Link)) (links : List Link) → checked (host_fault o) (unwrap_or o []) ≡ Ok links → o ≡ Some links
found_all None links h = cc
found_all (Some xs) links h = cc

in_table : (links : List ReadLink) → AllByRecursion InTable (map link_seen links) → (k : ℕ) (d : ReadLink) → k < length links → IsInTable (get_or links k d)
in_table [] h k d below = absurd (omega arith)
in_table (x ∷ links) h zero d below = h.0
in_table (x ∷ links) h (suc k) d below = in_table links h.1 k d (omega arith)

-- the hosts of links among at most 32 stand in the table of ways
pub placed-in_table : (names : List (List ℕ)) (texts : List LinkText) (links : List ReadLink) → length names ≤ 32 → placed names texts ≡ Ok (map link_seen links) → All IsInTable links
unfolding placed
placed-in_table names texts links few h =
    in_table links
    (all_some-each (link_between names) (λ _. Unit {0}) InTable (each_in_table names few) texts (map link_seen links) (always texts) (found_all (links_between names texts) (map link_seen links) h))

abbrev pub has_pair_of : ReadLink → List ReadLink → Bool
has_pair_of link links = list_any (λ other. is_same_pair (link_seen link) (link_seen other)) links

list_any-seen : (p : Link → Bool) (links : List ReadLink) → list_any p (map link_seen links) ≡ list_any (λ link. p (link_seen link)) links
list_any-seen p [] = refl
list_any-seen p (x ∷ links) = ap (λ b. p (link_seen x) || b) (list_any-seen p links)

-- whether a link's pair comes again
pub repeated_here : (link : ReadLink) (more : List ReadLink) (b : Bool) → has_pair_of link more ≡ b → is_repeated (map link_seen (link ∷ more)) ≡ (b || is_repeated (map link_seen more))
repeated_here link more b h = ap (λ again. again || is_repeated (map link_seen more)) (list_any-seen (is_same_pair (link_seen link)) more ∙ h)

pub repeated_more : (links rest : List ReadLink) (i : ℕ) (d : ReadLink) (b : Bool) → i < length links → b ≡ has_pair_of (get_or links i d) rest → rest ≡ drop (i + 1) links
    → is_repeated (map link_seen (drop i links)) ≡ (b || is_repeated (map link_seen (drop (i + 1) links)))
repeated_more links rest i d b below h e =
    ap (λ ls. is_repeated (map link_seen ls)) (drop_more links i d below) ∙ repeated_here (get_or links i d) (drop (i + 1) links) b (ap (has_pair_of (get_or links i d)) (sym e) ∙ sym h)

-- what follows a place of a list
pub after_place : {A : Type 0} (xs : List A) (n : ℕ) → take (length xs - n) (drop n xs) ≡ drop n xs
after_place xs n = take_all (length xs - n) (drop n xs) (omega (arith, length-drop n xs))

-- one more way is set
pub ways_more : (links : List ReadLink) (i : ℕ) (d : ReadLink) (old new end : Ways) → i < length links
    → new ≡ with_way (get_or links i d).source (get_or links i d).target (get_or links i d).way old
    → with_links (map link_seen (drop i links)) old ≡ end → with_links (map link_seen (drop (i + 1) links)) new ≡ end
ways_more links i d old new end below set h =
    ap (with_links (map link_seen (drop (i + 1) links))) set ∙ sym (ap (λ ls. with_links (map link_seen ls) old) (drop_more links i d below)) ∙ h

get_or-any : {A : Type 0} (xs : List A) (i : ℕ) (d e : A) → i < length xs → get_or xs i d ≡ get_or xs i e
get_or-any [] i d e below = absurd (omega arith)
get_or-any (x ∷ xs) zero d e below = refl
get_or-any (x ∷ xs) (suc i) d e below = get_or-any xs i d e (omega arith)

-- one more link is found, and one that is not
pub found_more : (names : List (List ℕ)) (links : List ReadText) (i : ℕ) (d : ReadText) (y : Link) (had : List Link) → i < length links → placed_in names (get_or links i d) ≡ Some y
    → with_rest (placed_in names) had (all_some (placed_in names) (drop i links)) ≡ with_rest (placed_in names) (had ++ y ∷ []) (all_some (placed_in names) (drop (i + 1) links))
found_more names links i d y had below e =
    read_more (placed_in names) links i (get_or links i d) y had below (get_or-any links i d (get_or links i d) below) e

pub found_stop : (names : List (List ℕ)) (links : List ReadText) (i : ℕ) (d : ReadText) (had : List Link) → i < length links → placed_in names (get_or links i d) ≡ None
    → with_rest (placed_in names) had (all_some (placed_in names) (drop i links)) ≡ None
found_stop names links i d had below e = read_stop (placed_in names) links i (get_or links i d) had below (get_or-any links i d (get_or links i d) below) e

-- the ways, where a pair comes again and where none does
pub ways_repeated : (way : Way) (links : List Link) → is_repeated links ≡ true → linked_ways way links ≡ Err (record { number = 14; key = codes "link" })
unfolding linked_ways
ways_repeated way links h = ap (λ b. checked (if b then Some (record { number = 14; key = codes "link" }) else None) (with_links links (all way))) h

pub ways_said : (way : Way) (links : List Link) (ways : Ways) → is_repeated links ≡ false → with_links links (all way) ≡ ways → linked_ways way links ≡ Ok ways
unfolding linked_ways
ways_said way links ways h e = ap (λ b. checked (if b then Some (record { number = 14; key = codes "link" }) else None) (with_links links (all way))) h ∙ ap Ok e

-- names that differ are those that were given
pub differing_names : (servers : ℕ) (names hosts : List (List ℕ)) → differing servers names ≡ Ok hosts → names ≡ hosts
unfolding differing
differing_names servers names hosts h = by (repeated_from 0 [] names) h
  where
    by : (o : Option ℕ) → checked (option_map (λ k. record { number = 12; key = if nat_lt k servers then codes "servers" else codes "client" }) o) names ≡ Ok hosts → names ≡ hosts
    by None e = cc
    by (Some k) e = cc
