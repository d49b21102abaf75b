-- The run that a script leaves.
use Rattle.std.proofs.Common.{◌≡◌, ◌<◌, ℕ, List, [], ◌∷◌, refl, sym, ap, subst, ◌∙◌, slice_index_or, length, arith, Bool, true, false, ◌&&◌, Result, Err}
use Rattle.std.proofs.lemmas.List.{length-map}
use Rattle.std.specs.Str.Lines.{lines}
use Rattle.sim_events.specs.declared.Event.{Event}
use Rattle.sim_events.specs.Scenario.{Scenario}
use Rattle.sim_world.specs.Events.{Rules}
use Rattle.sim_book.specs.Book.{Book, branch, opening}
use Rattle.sim_book.specs.Kept.{Kept, all_shown, first_kept, shown}
use Rattle.sim_script.specs.Script.{Text, Names}
use Rattle.sim_cli.specs.Turns.{Course, beginning}
use Rattle.sim_cli.specs.Play.{end_from}
use Rattle.sim_cli.specs.Strict.{IsFirstFault, are_well}
use Rattle.sim_cli.specs.declared.stop.ScriptStop.{ScriptStop}
use Rattle.sim_cli.specs.declared.stop.ScriptStop.TheVariants as stops
use Rattle.sim_cli.specs.Following.{Follows}
use Rattle.sim_cli.specs.Played.{IsFault, IsWellIf, first_events, given_events}

-- a book that opens has a branch
pub some_first : (kept : List Kept) → all_shown kept ≡ opening → 0 < length kept
some_first kept e =
    let one : 0 < length opening = omega arith in
    subst (λ (n : ℕ). 0 < n) (length-map kept shown) (subst (λ (b : Book). 0 < length b) (sym e) one)

-- the kept events of the first branch
pub first_shown : (s : Scenario) (kept : List Kept) → (slice_index_or kept 0 (first_kept s)).tape.events ≡ (branch 0 (all_shown kept)).events
first_shown s [] = refl
first_shown s (k ∷ ks) = refl

module _ {State Msg : Type 0} (r q : Rules State Msg) (names : Names) where
  -- they are those that the script leaves
  pub first_left : (s : Scenario) (kept : List Kept) (start here : Course) (script : Text) (events : List Event) → q ≡ r → start ≡ beginning → here.branches ≡ all_shown kept
      → here ≡ end_from q names start (lines script) → ((d : Kept) → events ≡ (slice_index_or kept 0 d).tape.events) → events ≡ first_events r names script
  first_left s kept start here script events same begun shown left are =
      are (first_kept s) ∙ (first_shown s kept ∙ (ap (λ b. (branch 0 b).events) (sym shown) ∙ (ap (λ (c : Course). (branch 0 c.branches).events) left
      ∙ (ap (λ (p : Rules State Msg). (branch 0 (end_from p names start (lines script)).branches).events) same
      ∙ ap (λ (c : Course). (branch 0 (end_from r names c (lines script)).branches).events) begun))))

module _ {State Msg : Type 0} (r q : Rules State Msg) (names : Names) (strict : Bool) (start : Course) (script : Text) (same : q ≡ r) (begun : start ≡ beginning) where
  -- no line of the script is at fault
  pub well_begun : (strict ≡ true → are_well q names start (lines script) ≡ true) → IsWellIf r strict names script
  well_begun h = λ s.
      subst (λ (c : Course). are_well r names c (lines script) ≡ true) begun
      (subst (λ (p : Rules State Msg). are_well p names start (lines script) ≡ true) same (h s))

  -- or the first one that is
  pub fault_begun : (T : Type 0) (new : Course) (stop : ScriptStop) → Follows q names strict {T = T} start new (lines script) (Err stop) → IsFault r strict names script stop
  fault_begun T new (stops.Ended ended) h = tt
  fault_begun T new (stops.Fault fault) h = (
    h.0,
    subst (λ (c : Course). IsFirstFault r names c (lines script) fault) begun
        (subst (λ (p : Rules State Msg). IsFirstFault p names start (lines script) fault) same h.1),
  )

module _ {State Msg : Type 0} (r : Rules State Msg) (names : Names) (script : Text) where
  -- the events of the script, which were asked for
  pub asked : (with_script strict : Bool) (events : List Event) → with_script ≡ true → events ≡ first_events r names script → IsWellIf r strict names script
      → (events ≡ given_events r with_script names script) × IsWellIf r (with_script && strict) names script
  asked true strict events is e w = (e, w)
  asked false strict events is e w = absurd (let bad : false ≡ true = is in cc)

  pub asked_not : (with_script strict : Bool) (events : List Event) → with_script ≡ false → events ≡ []
      → (events ≡ given_events r with_script names script) × IsWellIf r (with_script && strict) names script
  asked_not true strict events is e = absurd (let bad : true ≡ false = is in cc)
  asked_not false strict events is e = (e, λ s. absurd (let bad : false ≡ true = s in cc))

  pub asked_fault : (with_script strict : Bool) (stop : ScriptStop) → with_script ≡ true → IsFault r strict names script stop → IsFault r (with_script && strict) names script stop
  asked_fault true strict stop is h = h
  asked_fault false strict stop is h = absurd (let bad : false ≡ true = is in cc)
