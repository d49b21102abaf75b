-- The lines of a log, one after the other.
use Rattle.std.proofs.Common.{◌≡◌, ◌∙◌, ℕ, suc, ◌+◌, ◌-◌, ◌<◌, ◌≤◌, Bool, true, List, [], length, take, Option, Some, None, refl, sym, ap, subst, inl, inr, arith}
use Rattle.std.specs.List.{slice_get}
use Rattle.std.proofs.lemmas.Option.{slice_get_cases}
use Rattle.sim_node.specs.Node.{NodeLaws}
use Rattle.sim_events.specs.declared.Event.{Event}
use Rattle.sim_events.specs.Scenario.{Scenario}
use Rattle.sim_world.specs.World.{World}
use Rattle.sim_world.specs.Events.{Rules, rules, run}
use Rattle.sim_tape.specs.Tape.{Tape, at, with_world}
use Rattle.sim_log.specs.Lines.{AddsLine, AreLines, IsPast}

-- an event below the length of a run is there
pub is_there : (events : List Event) (i : ℕ) → i < length events → slice_get events i ≡ None → ⊥
is_there events i h e = elim (slice_get_cases events i).1 [
  | inl s ↦ let some : Some s.0 ≡ None = sym s.2 ∙ e in absurd (cc)
  | inr p ↦ let past : length events ≤ i = p.0 in absurd (omega arith)
]

module _ {State Msg : Type 0} (r : Rules State Msg) (events : List Event) (json : Bool) where
  -- before the first line there is none
  pub no_lines : (first : ℕ) → AreLines r events json first (first - first) []
  no_lines first =
      let none : first - first ≡ 0 = omega arith in
      subst (λ (n : ℕ). AreLines r events json first n []) (sym none) refl

  -- one more line
  more_lines : (first place : ℕ) (before text : List ℕ) → first ≤ place → AreLines r events json first (place - first) before
      → AddsLine r events json place before text → AreLines r events json first (place + 1 - first) text
  more_lines first place before text h lines line =
      let count : place + 1 - first ≡ suc (place - first) = omega arith in
      let there : first + (place - first) ≡ place = omega arith in
      subst (λ (n : ℕ). AreLines r events json first n text) (sym count)
      (before, lines, subst (λ (p : ℕ). AddsLine r events json p before text) (sym there) line)

-- a warm tape of a run at a place, whatever its reach is
abbrev pub warm_at : Scenario → List Event → ℕ → ℕ → Tape
warm_at scenario events place reach =
    record { scenario = scenario; events = events; place = place; warm = true; reach = reach }

-- its reach is its own
pub own_reach : (scenario : Scenario) (events : List Event) (place reach : ℕ) (t : Tape) → t ≡ warm_at scenario events place reach
    → t ≡ warm_at scenario events place t.reach
own_reach scenario events place reach t e =
    e ∙ ap (λ (n : ℕ). warm_at scenario events place n) (sym (ap (λ (u : Tape). u.reach) e))

-- where it is once it was walked past an event
past_at : (scenario : Scenario) (events : List Event) (place next : ℕ) (old new : Tape) → old ≡ warm_at scenario events place old.reach
    → place + 1 ≡ next → IsPast old new → new ≡ warm_at scenario events next new.reach
past_at scenario events place next old new e h past =
    past ∙ (ap (λ (t : Tape). with_world true new.reach (at (t.place + 1) t)) e ∙ ap (λ (n : ℕ). warm_at scenario events n new.reach) h)

module _ {State Msg : Type 0} (laws : NodeLaws State Msg) (probes : ℕ) where
  -- the world of a tape that was walked past an event
  pub led_past : (old new : Tape) (w : World State Msg) (place : ℕ) → IsPast old new → place ≡ old.place + 1
      → run (rules laws probes new.scenario) (take new.place new.events) ≡ Some w
      → run (rules laws probes old.scenario) (take place old.events) ≡ Some w
  led_past old new w place past there led =
      let here = subst (λ (t : Tape). run (rules laws probes t.scenario) (take t.place t.events) ≡ Some w) past led in
      subst (λ (p : ℕ). run (rules laws probes old.scenario) (take p old.events) ≡ Some w) (sym there) here

  -- a line was added, and the tape was walked past its event
  pub one_more : (scenario : Scenario) (events : List Event) (json form : Bool) (first place : ℕ) (old new : Tape) (before text : List ℕ)
      → 1 ≤ first → first ≤ place → json ≡ form
      → AreLines (rules laws probes scenario) events json first (place - first) before → old ≡ warm_at scenario events (place - 1) old.reach
      → IsPast old new → AddsLine (rules laws probes old.scenario) old.events form place before text
      → AreLines (rules laws probes scenario) events json first (place + 1 - first) text × (new ≡ warm_at scenario events (place + 1 - 1) new.reach)
  one_more scenario events json form first place old new before text least h same lines e past line =
      let of_run = subst (λ (t : Tape). AddsLine (rules laws probes t.scenario) t.events form place before text) e line in
      let of_form = subst (λ (b : Bool). AddsLine (rules laws probes scenario) events b place before text) (sym same) of_run in
      let next : place - 1 + 1 ≡ place + 1 - 1 = omega arith in (
        more_lines (rules laws probes scenario) events json first place before text h lines of_form,
        past_at scenario events (place - 1) (place + 1 - 1) old new e next past,
      )
