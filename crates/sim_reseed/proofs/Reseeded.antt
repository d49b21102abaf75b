-- What the printed text of a numbered table is read as.
use Rattle.std.proofs.Common.{◌≡◌, ℕ, ◌≤◌, List, [], length, Some, None, Option, Result, Ok, Err, cond, codes, refl, sym, ap, ◌∙◌, le-ltb}
use Rattle.std.specs.Prelude.{IfOk}
use Rattle.std.specs.Option.{unwrap_or, option_and_then}
use Rattle.std.specs.Result.{result_ok}
use Rattle.hex.specs.Hex.{decode_of, encode_lower}
use Rattle.toml.specs.Data.{Members, get_member, string, as_str}
use Rattle.toml.specs.Parse.{parse_document}
use Rattle.sim_scenario.specs.Scenario.{Protocol, Fault, ScenarioText, read, read_document, document_fault, scenario_of, text_at, text_fault}
use Rattle.sim_reseed.specs.Numbered.{numbered_seed, numbered, numbered_reading, with_seed, HasSeed}
use Rattle.sim_reseed.proofs.Keys.{get_member-written, get_member-other, unknown_key-with_value}
use Rattle.sim_reseed.proofs.Reading.{IsReseeded, fault-same, scenario-same}
use Rattle.sim_reseed.proofs.Seeds.{seed_of_digits, numbered-decodes, numbered-sound, good_digits}

-- what a short text is read as
pub read-parsed : (protocols : List Protocol) (text : List ℕ) → length text ≤ 65536 → read protocols text ≡ read_document protocols (parse_document text)
read-parsed protocols text short = ap (λ b. cond b (Err (text_fault 1)) (read_document protocols (parse_document text))) (le-ltb 65536 (length text) short)

bytes_at : (doc : Members) (digits bytes : List ℕ) → get_member (codes "seed") doc ≡ Some (string digits) → decode_of digits ≡ Ok bytes
    → unwrap_or (result_ok (decode_of (text_at (codes "seed") doc))) [] ≡ bytes
bytes_at doc digits bytes stands e =
    ap (λ o. unwrap_or (result_ok (decode_of (unwrap_or (option_and_then as_str o) []))) []) stands
    ∙ ap (λ r. unwrap_or (result_ok r) []) e

-- what a fault, or none, makes of a scenario
abbrev pub settled : Option Fault → ScenarioText → Result ScenarioText Fault
settled fault s = elim fault [ Some f ↦ Err f | None ↦ Ok s ]

settled-numbered : (i : ℕ) (fault : Option Fault) (s : ScenarioText) → settled fault (numbered i s) ≡ numbered_reading i (settled fault s)
settled-numbered i None s = refl
settled-numbered i (Some f) s = refl

module _ (i : ℕ) (doc : Members) (seed : List ℕ) (had : HasSeed doc seed) where
  abbrev digits : List ℕ
  digits = encode_lower (numbered_seed i seed)

  abbrev changed : Members
  changed = with_seed (numbered_seed i seed) doc

  written : get_member (codes "seed") changed ≡ Some (string digits)
  written = get_member-written (codes "seed") (string digits) (string had.digits) doc had.stands

  reseeded : IsReseeded doc changed
  reseeded = record {
    keys = λ known. unknown_key-with_value known (codes "seed") (string digits) doc;
    values = λ key other. get_member-other key (codes "seed") (string digits) doc other;
    sound = good_digits (get_member (codes "seed") doc) had.digits had.stands had.sound;
    sound_too = good_digits (get_member (codes "seed") changed) digits written (numbered-sound i seed (seed_of_digits had.digits seed had.sound had.bytes));
  }

  scenario-numbered : (protocols : List Protocol) → scenario_of protocols changed ≡ numbered i (scenario_of protocols doc)
  scenario-numbered protocols =
      scenario-same doc changed reseeded protocols (numbered_seed i seed) (bytes_at changed digits (numbered_seed i seed) written (numbered-decodes i seed (seed_of_digits had.digits seed had.sound had.bytes)))
      ∙ ap (λ s. record (scenario_of protocols doc) { seed = numbered_seed i s }) (sym (bytes_at doc had.digits seed had.stands had.bytes))

  -- the document is read as the same scenario with the other seed, or with the same fault
  document-numbered : (protocols : List Protocol) → read_document protocols (Some changed) ≡ numbered_reading i (read_document protocols (Some doc))
  document-numbered protocols =
      (λ k. settled (fault-same doc changed reseeded protocols k) (scenario-numbered protocols k))
      ∙ settled-numbered i (document_fault protocols doc) (scenario_of protocols doc)

  pub text-numbered : (protocols : List Protocol) (text printed : List ℕ) → length text ≤ 65536 → length printed ≤ 65536 → parse_document text ≡ Some doc → parse_document printed ≡ Some changed
      → read protocols printed ≡ numbered_reading i (read protocols text)
  text-numbered protocols text printed short short_too parsed parsed_too =
      read-parsed protocols printed short_too
      ∙ ap (read_document protocols) parsed_too
      ∙ document-numbered protocols
      ∙ ap (λ o. numbered_reading i (read_document protocols o)) (sym parsed)
      ∙ ap (numbered_reading i) (sym (read-parsed protocols text short))

-- facts on what was returned, if all went well
pub on_one : {T E : Type 0} (r : Result T E) {P Q : T → Type 0} → ((t : T) → P t → Q t) → IfOk r P → IfOk r Q
on_one (Ok t) f p = f t p
on_one (Err e) f p = tt

pub on_both : {T E : Type 0} (r : Result T E) {P Q R : T → Type 0} → ((t : T) → P t → Q t → R t) → IfOk r P → IfOk r Q → IfOk r R
on_both (Ok t) f p q = f t p q
on_both (Err e) f p q = tt
