-- Giving an input to a host: its preconditions, and its effect on the node.
use Rattle.std.specs.Prelude.{◌≡◌, ℕ, ◌^◌, ◌<◌, List, [], length, Some}
use Rattle.sim_streams.specs.Word.{stream_of}
use Rattle.sim_node.specs.declared.Input.{Input}
use Rattle.sim_node.specs.Effects.{Effect, Effects}
use Rattle.sim_node.specs.Node.{IsFrom, IsLawful}
use Rattle.sim_world.specs.declared.index.Index.{Index}
use Rattle.sim_events.specs.Scenario.{Scenario}
use Rattle.sim_world.specs.World.{World, Seeded, host_at, place, drawn, with_node}
use Rattle.sim_world.specs.Events.{Rules, reaction}
use Rattle.sim_world.specs.inside.Index.{IsIndex}
use Rattle.sim_world.specs.Room.{HasRoom}

module _ {State Msg : Type 0} where
  -- a property of the node of a host, if it has one
  abbrev pub OfNode : ℕ → World State Msg → (State → Type 0) → Type 0
  OfNode h w holds = (s : State) → (host_at h w).node ≡ Some s → holds s

-- An input can be given to a host of a run: there is room for the effects of its node, and no
-- effects are asked for yet.
pub record CanGive {State Msg : Type 0} (told : State → ℕ) (s : Scenario) (h : ℕ)
    (i : Input Msg)
    (kept : Index) (asked : Effects Msg) (p : Seeded State Msg) : Type 0 where
  pub seed : p.seed ≡ s.seed
  pub host : h < length p.world.hosts
  pub room : HasRoom 40 p.world
  pub words : place (stream_of h) p.world < 2 ^ 40
  pub index : IsIndex kept p.world
  pub empty : asked ≡ record { hosts = length p.world.hosts; list = [] }
  pub knows : OfNode h p.world (λ node. told node ≡ length p.world.hosts)
  pub sender : IsFrom (length p.world.hosts) i

module _ {State Msg : Type 0} (told : State → ℕ) (r : Rules State Msg) (h : ℕ)
    (i : Input Msg) where
  -- The node of a host takes one word of its stream and reacts: it is in the new parts, and asks
  -- for these effects.
  pub record Reacts (old new : Seeded State Msg) (asked : List (Effect Msg))
      (s : State) : Type 0 where
    pub world : new ≡ record old {
      world = with_node h (Some (reaction r h s i old.world).0) (drawn 1 (stream_of h) old.world);
    }
    pub asks : asked ≡ (reaction r h s i old.world).1
    pub keeps : told (reaction r h s i old.world).0 ≡ told s

  -- the reaction to an input is lawful, if the host runs
  abbrev pub ReactsLawfully : World State Msg → Type 0
  ReactsLawfully w = OfNode h w (λ s. IsLawful told s (reaction r h s i w))
