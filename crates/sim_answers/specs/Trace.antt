-- The kept events of a branch: compact JSON with the keys `branch` and `events`, in this order.
use Rattle.std.specs.Prelude.{ℕ, codes, List, [], ◌∷◌, map}
use Rattle.serde_json.specs.Data.{Data, array, number, string, object, member, no_members, unsigned}
use Rattle.serde_json.specs.View.{items_of}
use Rattle.serde_json.specs.Written.{compact_text}
use Rattle.sim_events.specs.declared.Event.{Event}
use Rattle.sim_events.specs.declared.Event.TheVariants as event
use Rattle.sim_events.specs.declared.Fault.{Fault}
use Rattle.sim_events.specs.declared.Fault.TheVariants as fault
use Rattle.sim_script.specs.Words.{Text, Names, host_name}
use Rattle.sim_answers.specs.Spacing.{spaced, field}

module _ (names : Names) where
  abbrev pub on_host : Text → ℕ → Text
  on_host word h = spaced (word ∷ host_name names h ∷ [])

  abbrev pub on_hosts : Text → ℕ → ℕ → Text
  on_hosts word a b = spaced (word ∷ host_name names a ∷ host_name names b ∷ [])

  -- the words of a fault's script line
  abbrev pub fault_words : Fault → Text
  fault_words (fault.Crash h) = on_host (codes "crash") h
  fault_words (fault.Bounce h) = on_host (codes "bounce") h
  fault_words (fault.Hold a b) = on_hosts (codes "hold") a b
  fault_words (fault.Release a b) = on_hosts (codes "release") a b
  fault_words (fault.Cut a b) = on_hosts (codes "partition") a b
  fault_words (fault.CutOneway a b) = on_hosts (codes "cutoneway") a b
  fault_words (fault.Repair a b) = on_hosts (codes "repair") a b
  fault_words (fault.RepairOneway a b) = on_hosts (codes "repaironeway") a b

  abbrev pub event_words : Event → Text
  event_words event.Step = codes "step"
  event_words (event.Advance to) = field (codes "advance") to
  event_words (event.Fault f) = fault_words f

  abbrev pub event_value : Event → Data
  event_value e = string (event_words e)

  -- the branch's number and its events
  abbrev pub trace_value : ℕ → List Event → Data
  trace_value branch events = object
      (member (codes "branch") (number (unsigned branch))
      (member (codes "events") (array (items_of (map event_value events)))
      no_members))

  unfoldable pub trace_words : ℕ → List Event → Text
  trace_words branch events = compact_text (trace_value branch events)
