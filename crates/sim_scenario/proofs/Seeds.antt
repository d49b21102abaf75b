-- The seed: 64 hexadecimal digits are 32 bytes.
use Rattle.std.proofs.Common.{◌≡◌, ℕ, ◌==◌, List, [], length, Result, Ok, Err, true, false, refl, sym, ◌∙◌, ap, Some, None, inl, inr, codes}
use Rattle.std.specs.Prelude.{MatchResult, IsOk, if◌then◌else◌}
use Rattle.std.specs.Option.{unwrap_or, option_and_then}
use Rattle.std.specs.Result.{result_ok}
use Rattle.std.specs.List.{list_all}
use Rattle.std.proofs.lemmas.Bool.{cases_Bool, and_parts, eqb-true, false≢true}
use Rattle.std.proofs.lemmas.List.Sums.{AllPass-from_list_all, list_all-from_AllPass}
use Rattle.hex.specs.Hex.{decode_of, decode_sized, is_hex_digit}
use Rattle.hex.specs.declared.error.FromHexError.{FromHexError}
use Rattle.hex.proofs.HexLemmas.{IsOk-decode_sized}
use Rattle.toml.specs.Data.{Members, string, get_member, as_str}
use Rattle.sim_scenario.specs.Scenario.{is_seed, keyed, string_fault}
use Rattle.sim_scenario.specs.Parts.{checked, seed_of}

-- what decoding into 32 bytes says of a text
abbrev pub Decodes : List ℕ → Result (List ℕ) FromHexError → Result (Unit {0}) FromHexError → Type 0
Decodes out decoded result = MatchResult decoded (λ bytes. (result ≡ Ok tt) × (out ≡ bytes)) (λ e. result ≡ Err e)

sized-decode_of : (text : List ℕ) → length text ≡ 64 → decode_sized text 32 ≡ decode_of text
sized-decode_of text e = rw e

-- a text that was decoded is a seed, and gives the bytes
pub seed_read : (text out : List ℕ) (result : Result (Unit {0}) FromHexError) → Decodes out (decode_sized text 32) result → result ≡ Ok tt
    → (is_seed text ≡ true) × (unwrap_or (result_ok (decode_of text)) [] ≡ out)
seed_read text out result h ok = by (decode_sized text 32) refl h
  where
    by : (d : Result (List ℕ) FromHexError) → decode_sized text 32 ≡ d → Decodes out d result → (is_seed text ≡ true) × (unwrap_or (result_ok (decode_of text)) [] ≡ out)
    by (Ok bytes) d m =
        let digits = (IsOk-decode_sized text 32).0 (rw d refl) in
        let size : length text ≡ 64 = digits.0 in
        let all : list_all is_hex_digit text ≡ true = list_all-from_AllPass is_hex_digit text digits.1 in
        (rw (size, all), ap (λ r. unwrap_or (result_ok r) []) (sym (sized-decode_of text size) ∙ d) ∙ sym m.1)
    by (Err e) d m = let wrong : Err e ≡ Ok tt = sym m ∙ ok in cc

-- a text that was not decoded is no seed
pub seed_bad : (text out : List ℕ) (result : Result (Unit {0}) FromHexError) (error : FromHexError) → Decodes out (decode_sized text 32) result → result ≡ Err error → is_seed text ≡ false
seed_bad text out result error h bad = elim (cases_Bool (is_seed text)) [
  | inl is ↦
      let parts = and_parts (length text == 64) (list_all is_hex_digit text) is in
      by (decode_sized text 32) h ((IsOk-decode_sized text 32).1 (eqb-true (length text) 64 parts.0, AllPass-from_list_all is_hex_digit text parts.1))
  | inr other ↦ other
]
  where
    by : (d : Result (List ℕ) FromHexError) → Decodes out d result → IsOk d → is_seed text ≡ false
    by (Ok bytes) m ok = let wrong : Ok tt ≡ Err error = sym m.0 ∙ bad in cc
    by (Err e) m ok = absurd (false≢true ok)

-- the seed of a document
pub seed_of-found : (doc : Members) (text : List ℕ) → get_member (codes "seed") doc ≡ Some (string text)
    → seed_of doc ≡ checked (keyed (codes "seed") (if is_seed text then None else Some 6)) (unwrap_or (result_ok (decode_of text)) [])
unfolding seed_of
seed_of-found doc text h = ap (λ o. checked (keyed (codes "seed") (string_fault is_seed 6 o)) (unwrap_or (result_ok (decode_of (unwrap_or (option_and_then as_str o) []))) [])) h
