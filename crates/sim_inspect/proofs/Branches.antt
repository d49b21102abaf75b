-- The events of a branch that is there, and what stands in the place of one that is not.
use Rattle.std.proofs.Common.{◌≡◌, ◌∙◌, ℕ, ◌<◌, ◌≤◌, true, false, List, length, Some, sym, ap, subst, inl, inr, arith}
use Rattle.std.proofs.lemmas.Bool.{cases_lt}
use Rattle.std.proofs.lemmas.List.{get_or-map, length-map, get_or_past}
use Rattle.sim_events.specs.declared.Event.{Event}
use Rattle.sim_events.specs.Scenario.{Scenario}
use Rattle.sim_tape.specs.Tape.{Frozen}
use Rattle.sim_runs.specs.Branch.{Branch}
use Rattle.sim_book.specs.Book.{branch, empty_branch}
use Rattle.sim_book.specs.Kept.{Kept, shown, all_shown, first_kept}
use Rattle.sim_book.specs.Freezing.{IsWhole}

-- a branch that is not there
pub not_there : (kept : List Kept) (b : ℕ) → (b < length kept → false ≡ true) → length kept ≤ b
not_there kept b h = elim (cases_lt b (length kept)) [ inl there ↦ absurd (let e : false ≡ true = h there in cc) | inr past ↦ past ]

-- what stands in its place
pub nowhere : (kept : List Kept) (b : ℕ) → length kept ≤ b → branch b (all_shown kept) ≡ empty_branch
nowhere kept b past = get_or_past (all_shown kept) b empty_branch (omega (arith, past, length-map kept shown))

-- the events of a branch that is there
pub events_here : (s : Scenario) (kept : List Kept) (b : ℕ) (run : Frozen) → IsWhole s kept b (Some run) → run.events ≡ (branch b (all_shown kept)).events
events_here s kept b run whole =
    whole.2 (first_kept s) ∙ sym (ap (λ (x : Branch). x.events) (get_or-map shown kept b (first_kept s) empty_branch whole.0))

-- a place of the branch is one of its run
pub place_within : (s : Scenario) (kept : List Kept) (b : ℕ) (run : Frozen) → IsWhole s kept b (Some run) → (to : ℕ) → to ≤ length (branch b (all_shown kept)).events → to ≤ length run.events
place_within s kept b run whole to h = subst (λ (es : List Event). to ≤ length es) (sym (events_here s kept b run whole)) h
