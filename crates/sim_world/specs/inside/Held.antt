-- The contents of a world in hand: its parts, their index, its scenario, and the number of events
-- before it.
use Rattle.std.specs.Prelude.{◌≡◌, ℕ, []}
use Rattle.sim_node.specs.Effects.{Effects}
use Rattle.sim_world.specs.declared.index.Index.{Index}
use Rattle.sim_events.specs.Scenario.{Scenario}
use Rattle.sim_world.specs.World.{Seeded}
use Rattle.sim_world.specs.inside.Index.{IsIndex}
use Rattle.sim_world.specs.Records.{InHand}
use Rattle.sim_world.specs.inside.Sound.{IsSound}

pub record Held (State Msg : Type 0) : Type 0 where
  pub parts : Seeded State Msg
  pub index : Index
  pub effects : Effects Msg
  pub scenario : Scenario
  pub age : ℕ

-- what contracts see of it
abbrev pub in_hand : {State Msg : Type 0} → Held State Msg → InHand State Msg
in_hand k = record { world = k.parts.world; scenario = k.scenario; age = k.age }

-- the parts are those of a run of the scenario, and the index is theirs
pub record IsHeld {State Msg : Type 0} (told : State → ℕ) (k : Held State Msg) : Type 0 where
  pub sound : IsSound told k.scenario k.age k.parts.world
  pub index : IsIndex k.index k.parts.world
  pub seed : k.parts.seed ≡ k.scenario.seed
  pub effects : k.effects ≡ record { hosts = k.scenario.setup.hosts; list = [] }
