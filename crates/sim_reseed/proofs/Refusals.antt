-- Texts that no list of protocols makes a scenario.
use Rattle.std.proofs.Common.{◌≡◌, ℕ, ◌<◌, ◌≤◌, List, length, Some, None, Option, Result, Ok, Err, cond, codes, true, false, refl, ap, subst, ◌∙◌}
use Rattle.std.specs.Prelude.{is_err, IfErr, ◌≢◌}
use Rattle.std.proofs.lemmas.Bool.{lt-ltb}
use Rattle.toml.specs.Data.{Members, get_member}
use Rattle.toml.specs.Parse.{parse_document}
use Rattle.sim_scenario.specs.Scenario.{Protocol, Fault, ScenarioText, read_document, document_fault, scenario_of, text_fault, string_fault, is_seed}
use Rattle.toml.specs.Text.{IsDocumentText}
use Rattle.sim_reseed.specs.Numbered.{numbered_seed, with_seed}
use Rattle.sim_reseed.specs.Refused.{IsNoScenario, IsSeeded, IsWritten, IsLong, Refuses}
use Rattle.sim_reseed.specs.declared.error.ReseedError.{ReseedError}
use Rattle.sim_reseed.specs.declared.error.ReseedError.TheVariants.{NoScenario, TooLong, HasMarker, NoMemory}
use Rattle.sim_reseed.specs.Shape.{HasOtherValue}
use Rattle.sim_reseed.proofs.Accepted.{accepted_shape, accepted_seed}
use Rattle.sim_reseed.proofs.Reseeded.{settled, read-parsed}

err-settled : (fault : Option Fault) (s : ScenarioText) → (fault ≡ None → ⊥) → is_err (settled fault s) ≡ true
err-settled None s h = absurd (h refl)
err-settled (Some f) s h = refl

-- a text whose document has a fault
not_read : (text : List ℕ) (doc : Members) → length text ≤ 65536 → parse_document text ≡ Some doc → ((protocols : List Protocol) → document_fault protocols doc ≡ None → ⊥) → IsNoScenario text
not_read text doc short parsed h = λ protocols.
    ap is_err (read-parsed protocols text short ∙ ap (read_document protocols) parsed)
    ∙ err-settled (document_fault protocols doc) (scenario_of protocols doc) (h protocols)

pub not_shaped : (text : List ℕ) (doc : Members) → length text ≤ 65536 → parse_document text ≡ Some doc → HasOtherValue doc → IsNoScenario text
not_shaped text doc short parsed other = not_read text doc short parsed (λ protocols none. accepted_shape protocols doc none other)

pub not_seeded : (text : List ℕ) (doc : Members) → length text ≤ 65536 → parse_document text ≡ Some doc → (string_fault is_seed 6 (get_member (codes "seed") doc) ≡ None → ⊥) → IsNoScenario text
not_seeded text doc short parsed other = not_read text doc short parsed (λ protocols none. other (accepted_seed protocols doc none))

pub not_toml : (text : List ℕ) → length text ≤ 65536 → parse_document text ≡ None → IsNoScenario text
not_toml text short parsed = λ protocols. ap is_err (read-parsed protocols text short ∙ ap (read_document protocols) parsed)

pub too_long : (text : List ℕ) → 65536 < length text → IsNoScenario text
too_long text long = λ protocols. ap (λ b. is_err (cond b (Err (text_fault 1)) (read_document protocols (parse_document text)))) (lt-ltb 65536 (length text) long)

pub written : (i : ℕ) (text : List ℕ) (doc changed : Members) (seed : List ℕ) (own : IsSeeded text doc seed) → changed ≡ with_seed (numbered_seed i seed) doc
    → (printed : List ℕ) → IsDocumentText false changed printed → IsWritten i text printed
written i text doc changed seed own same printed h =
    let P : Members → Type 0 = λ d. IsDocumentText false d printed in
    record { doc = doc; seed = seed; own = own; written = subst P same h }

-- what the printer answers is an answer for the text
pub refuses_printed : (i : ℕ) (text : List ℕ) (doc changed : Members) (seed : List ℕ) (own : IsSeeded text doc seed) → changed ≡ with_seed (numbered_seed i seed) doc
    → (e : ReseedError) → (e ≢ NoMemory → (e ≡ TooLong) × IsLong changed) → Refuses i text e
refuses_printed i text doc changed seed own same NoScenario h = let wrong : NoScenario ≡ TooLong = (h (λ is. cc)).0 in cc
refuses_printed i text doc changed seed own same TooLong h =
    let long : IsLong changed = (h (λ is. cc)).1 in
    (long.printed, written i text doc changed seed own same long.printed long.written, long.long)
refuses_printed i text doc changed seed own same HasMarker h = let wrong : HasMarker ≡ TooLong = (h (λ is. cc)).0 in cc
refuses_printed i text doc changed seed own same NoMemory h = tt

pub on_error : {T E : Type 0} (r : Result T E) {P Q : E → Type 0} → ((e : E) → P e → Q e) → IfErr r P → IfErr r Q
on_error (Ok t) f p = tt
on_error (Err e) f p = f e p
