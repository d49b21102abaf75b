-- Whether a condition holds, found from the front of its terms.
use Rattle.std.specs.Prelude.{ℕ, IsFalse, Bool, ◌&&◌, ◌||◌, List, [], ◌∷◌, if◌then◌else◌}
use Rattle.sim_node.specs.Node.{NodeLaws}
use Rattle.sim_world.specs.World.{World}
use Rattle.sim_watch.specs.Condition.{term_holds, names_no_host, names_no_probe}
use Rattle.sim_watch.specs.declared.cond.JoinedTerm.{JoinedTerm}

module _ {State Msg : Type 0} (node : NodeLaws State Msg) where
  -- the last alternative holds so far, and these terms follow it; or one of their alternatives
  -- holds
  abbrev pub holds_on : Bool → List JoinedTerm → World State Msg → Bool
  holds_on so_far [] w = so_far
  holds_on so_far (t ∷ more) w =
      if t.begins then so_far || holds_on (term_holds node t.term w) more w
      else holds_on (so_far && term_holds node t.term w) more w

-- the host and the probe of a term exist
abbrev pub IsThere : ℕ → ℕ → JoinedTerm → Type 0
IsThere hosts probes t =
    IsFalse (names_no_host hosts t.term) × IsFalse (names_no_probe probes t.term)
