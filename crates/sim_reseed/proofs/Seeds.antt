-- The bytes of a seed and its digits.
use Rattle.std.proofs.Common.{◌≡◌, ℕ, zero, suc, ◌+◌, ◌-◌, ◌*◌, ◌<◌, ◌==◌, List, ◌++◌, length, take, get_or, Option, Some, None, Result, Ok, Err, Bool, true, false, cond, codes, refl, sym, ap, ◌∙◌, inl, inr, arith, length-append}
use Rattle.std.specs.Int.{w64, to_le_bytes, byte_at, bytes_low_first}
use Rattle.std.specs.List.{list_all}
use Rattle.std.proofs.lemmas.Bool.{cases_lt, and_parts, eqb-true}
use Rattle.std.proofs.lemmas.List.{get_or-take, get_or-append-add, get_or_append_left, get_or_past, length-take}
use Rattle.std.proofs.lemmas.List.Sums.{list_all-from_AllPass}
use Rattle.hex.specs.declared.error.FromHexError.{FromHexError}
use Rattle.hex.specs.Hex.{IsBytes, decode_of, decode_sized, encode_lower, is_hex_digit, lower_digits}
use Rattle.hex.proofs.HexLemmas.{decode_of-ok, decode_sized-twice, decode_of-encode_lower, length-encode_with}
use Rattle.toml.specs.Data.{Data, Members, string, integer, float, boolean, datetime, array, table, get_member, as_str}
use Rattle.sim_scenario.specs.Scenario.{is_seed, string_fault}
use Rattle.sim_scenario.proofs.Seeds.{Decodes, seed_read}
use Rattle.sim_reseed.specs.Numbered.{numbered_seed, HasSeed}

byte_at-small : (i n : ℕ) → byte_at i n < 256
byte_at-small zero n = omega arith
byte_at-small (suc i) n = omega arith

low_first-small : (i k n j : ℕ) → get_or (bytes_low_first i k n) j 0 < 256
low_first-small i zero n j = omega arith
low_first-small i (suc k) n zero = byte_at-small i n
low_first-small i (suc k) n (suc j) = low_first-small (suc i) k n j

IsBytes-append : (xs ys : List ℕ) → IsBytes xs → IsBytes ys → IsBytes (xs ++ ys)
IsBytes-append xs ys h k i = elim (cases_lt i (length xs)) [
  | inl below ↦ rw (get_or_append_left xs ys 0 i below) (h i)
  | inr past ↦
      let e : i ≡ length xs + (i - length xs) = omega arith in
      let seen : get_or (xs ++ ys) i 0 ≡ get_or ys (i - length xs) 0 = ap (λ j. get_or (xs ++ ys) j 0) e ∙ get_or-append-add xs ys (i - length xs) 0 in
      rw seen (k (i - length xs))
]

IsBytes-take : (n : ℕ) (xs : List ℕ) → IsBytes xs → IsBytes (take n xs)
IsBytes-take n xs h i = elim (cases_lt i n) [
  | inl below ↦ rw (get_or-take n xs i 0 below) (h i)
  | inr past ↦ rw (get_or_past (take n xs) i 0 (omega (arith, length-take n xs))) (omega arith)
]

-- the seed of a numbered run has 32 bytes
IsBytes-numbered : (i : ℕ) (seed : List ℕ) → IsBytes seed → IsBytes (numbered_seed i seed)
IsBytes-numbered i seed h = IsBytes-append (take 24 seed) (to_le_bytes w64 i) (IsBytes-take 24 seed h) (low_first-small 0 8 i)

length-numbered : (i : ℕ) (seed : List ℕ) → length seed ≡ 32 → length (numbered_seed i seed) ≡ 32
length-numbered i seed h =
    let front : length (take 24 seed) ≡ 24 = omega (arith, length-take 24 seed) in
    omega (arith, length-append (take 24 seed) (to_le_bytes w64 i), front)

-- what a sound seed's digits are
pub record IsSeed (seed : List ℕ) : Type 0 where
  pub bytes : IsBytes seed
  pub size : length seed ≡ 32

pub seed_of_digits : (digits seed : List ℕ) → is_seed digits ≡ true → decode_of digits ≡ Ok seed → IsSeed seed
seed_of_digits digits seed sound e =
    let parts = and_parts (length digits == 64) (list_all is_hex_digit digits) sound in
    let size : length digits ≡ 64 = eqb-true (length digits) 64 parts.0 in
    let read = decode_of-ok digits seed e in
    let twice : length digits ≡ 2 * length seed = read.2 in
    record { bytes = read.3; size = omega arith }

-- the digits of the seed of a numbered run
pub numbered-decodes : (i : ℕ) (seed : List ℕ) → IsSeed seed → decode_of (encode_lower (numbered_seed i seed)) ≡ Ok (numbered_seed i seed)
numbered-decodes i seed h = decode_of-encode_lower (numbered_seed i seed) (IsBytes-numbered i seed h.bytes)

pub numbered-sound : (i : ℕ) (seed : List ℕ) → IsSeed seed → is_seed (encode_lower (numbered_seed i seed)) ≡ true
numbered-sound i seed h =
    let size : length (encode_lower (numbered_seed i seed)) ≡ 64 = length-encode_with lower_digits (numbered_seed i seed) ∙ ap (λ n. 2 * n) (length-numbered i seed h.size) in
    let digits : list_all is_hex_digit (encode_lower (numbered_seed i seed)) ≡ true =
    list_all-from_AllPass is_hex_digit (encode_lower (numbered_seed i seed)) (decode_of-ok (encode_lower (numbered_seed i seed)) (numbered_seed i seed) (numbered-decodes i seed h)).1 in
    rw (size, digits) refl

-- the faults of a seed
pub no_seed : (o : Option Data) → o ≡ None → string_fault is_seed 6 o ≡ None → ⊥
no_seed None e h = cc
no_seed (Some d) e h = cc

pub no_digits : (o : Option Data) (d : Data) → o ≡ Some d → as_str d ≡ None → string_fault is_seed 6 o ≡ None → ⊥
no_digits o (string s) e n h = cc
no_digits o (integer z) e n h = let f : string_fault is_seed 6 (Some (integer z)) ≡ None = rw e at h in cc
no_digits o (float x) e n h = let f : string_fault is_seed 6 (Some (float x)) ≡ None = rw e at h in cc
no_digits o (boolean b) e n h = let f : string_fault is_seed 6 (Some (boolean b)) ≡ None = rw e at h in cc
no_digits o (datetime dt) e n h = let f : string_fault is_seed 6 (Some (datetime dt)) ≡ None = rw e at h in cc
no_digits o (array ds) e n h = let f : string_fault is_seed 6 (Some (array ds)) ≡ None = rw e at h in cc
no_digits o (table ms) e n h = let f : string_fault is_seed 6 (Some (table ms)) ≡ None = rw e at h in cc

fault_of_digits : (digits : List ℕ) (b : Bool) → is_seed digits ≡ b → string_fault is_seed 6 (Some (string digits)) ≡ cond b None (Some 6)
fault_of_digits digits b e = ap (λ b. cond b None (Some 6)) e

pub bad_digits : (o : Option Data) (digits : List ℕ) → o ≡ Some (string digits) → is_seed digits ≡ false → string_fault is_seed 6 o ≡ None → ⊥
bad_digits o digits e bad h = let f : Some 6 ≡ None = sym (fault_of_digits digits false bad) ∙ sym (ap (string_fault is_seed 6) e) ∙ h in cc

pub good_digits : (o : Option Data) (digits : List ℕ) → o ≡ Some (string digits) → is_seed digits ≡ true → string_fault is_seed 6 o ≡ None
good_digits o digits e good = ap (string_fault is_seed 6) e ∙ fault_of_digits digits true good

pub text_of : (d : Data) (s : List ℕ) → as_str d ≡ Some s → d ≡ string s
text_of (string t) s e = let h : t ≡ s = cc in rw h refl
text_of (integer z) s e = cc
text_of (float x) s e = cc
text_of (boolean b) s e = cc
text_of (datetime dt) s e = cc
text_of (array ds) s e = cc
text_of (table ms) s e = cc

-- digits that were decoded into 32 bytes are those of a seed
pub seed_digits : (doc : Members) (value : Data) (digits seed : List ℕ) (result : Result (Unit {0}) FromHexError) → get_member (codes "seed") doc ≡ Some value → as_str value ≡ Some digits
    → Decodes seed (decode_sized digits 32) result → result ≡ Ok tt → HasSeed doc seed
seed_digits doc value digits seed result found text decoded ok =
    let sound = (seed_read digits seed result decoded ok).0 in
    let size : length digits ≡ 64 = eqb-true (length digits) 64 (and_parts (length digits == 64) (list_all is_hex_digit digits) sound).0 in
    record {
      digits = digits;
      stands = found ∙ ap Some (text_of value digits text);
      sound = sound;
      bytes = sym (decode_sized-twice digits 32 size) ∙ decoded_ok seed (decode_sized digits 32) result decoded ok;
    }
  where
    decoded_ok : (seed : List ℕ) (d : Result (List ℕ) FromHexError) (result : Result (Unit {0}) FromHexError) → Decodes seed d result → result ≡ Ok tt → d ≡ Ok seed
    decoded_ok seed (Ok bytes) result m ok = ap Ok (sym m.1)
    decoded_ok seed (Err e) result m ok = let wrong : Err e ≡ Ok tt = sym m ∙ ok in cc
