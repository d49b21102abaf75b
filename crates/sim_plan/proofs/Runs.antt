-- The events that happen, one after the other.
use Rattle.std.proofs.Common.{◌≡◌, ℕ, List, [], ◌∷◌, ◌++◌, Option, Some, None, ap, ◌∙◌}
use Rattle.sim_events.specs.declared.Event.{Event}
use Rattle.sim_node.specs.Node.{NodeLaws}
use Rattle.sim_events.specs.Scenario.{Scenario}
use Rattle.sim_world.specs.World.{World}
use Rattle.sim_world.specs.Records.{InHand}
use Rattle.sim_world.specs.Events.{Rules, rules, start, next}
use Rattle.sim_plan.specs.Happening.{happening}

module _ {State Msg : Type 0} (r : Rules State Msg) where
  pub happening_on : (w v : World State Msg) (e : Event) (es : List Event) → next r w e ≡ Some v → happening r w (e ∷ es) ≡ e ∷ happening r v es
  happening_on w v e es is = ap (λ (o : Option (World State Msg)). elim o [ None ↦ happening r w es | Some u ↦ e ∷ happening r u es ]) is

  pub happening_off : (w : World State Msg) (e : Event) (es : List Event) → next r w e ≡ None → happening r w (e ∷ es) ≡ happening r w es
  happening_off w e es is = ap (λ (o : Option (World State Msg)). elim o [ None ↦ happening r w es | Some u ↦ e ∷ happening r u es ]) is

-- nothing happened yet
pub run_none : {State Msg : Type 0} (node : NodeLaws State Msg) (probes : ℕ) (s : Scenario) (w : InHand State Msg) (items all es : List Event)
    → w ≡ record { world = start (rules node probes s); scenario = s; age = 0 } → items ≡ [] → es ≡ all
    → items ++ happening (rules node probes s) w.world es ≡ happening (rules node probes s) (start (rules node probes s)) all
run_none node probes s w items all es is none same =
    ap (λ (xs : List Event). xs ++ happening (rules node probes s) w.world es) none
    ∙ ap (λ (x : InHand _ _). happening (rules node probes s) x.world es) is
    ∙ ap (happening (rules node probes s) (start (rules node probes s))) same
