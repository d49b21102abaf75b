-- The limits of a scenario. Latencies and ticks are in milliseconds.
use Rattle.std.specs.Prelude.{ℕ, ◌<◌, ◌≤◌, slice_index}
use Rattle.sim_links.specs.Ways.{way, IsWay}
use Rattle.sim_node.specs.declared.Setup.{Setup}
use Rattle.sim_node.specs.Node.{IsSetup}
use Rattle.sim_events.specs.Scenario.{Scenario}

-- each client has 1 to 1000 operations
abbrev pub HaveOperations : Setup → Type 0
HaveOperations s =
    (h : ℕ) → s.servers ≤ h → h < s.hosts → (1 ≤ slice_index s.ops h) × (slice_index s.ops h ≤ 1000)

-- a scenario is within the limits
pub record IsScenario (s : Scenario) : Type 0 where
  pub tick : (1 ≤ s.tick) × (s.tick ≤ 60000)
  pub ways : (a b : ℕ) → a < 32 → b < 32 → IsWay (way a b s.ways)
  pub disk_latency : s.disk_latency ≤ 60000
  pub setup : IsSetup s.setup
  pub interval : (1 ≤ s.interval) × (s.interval ≤ 1024)
  pub window : (1 ≤ s.window) × (s.window ≤ 4096)
