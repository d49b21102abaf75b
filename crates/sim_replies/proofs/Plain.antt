-- A trace has no number with a fraction.
use Rattle.std.proofs.Common.{◌≡◌, refl, ℕ, List, [], ◌∷◌, map, false}
use Rattle.serde_json.specs.View.{items_of}
use Rattle.serde_json.specs.Written.{has_float, items_have_float}
use Rattle.sim_events.specs.declared.Event.{Event}
use Rattle.sim_script.specs.Words.{Names}
use Rattle.sim_answers.specs.Trace.{event_value, trace_value}

module _ (names : Names) where
  plain_events : (events : List Event) → items_have_float (items_of (map (event_value names) events)) ≡ false
  plain_events [] = refl
  plain_events (e ∷ es) = plain_events es

  pub is_plain : (branch : ℕ) (events : List Event) → has_float (trace_value names branch events) ≡ false
  is_plain branch events = rw (plain_events events) refl
