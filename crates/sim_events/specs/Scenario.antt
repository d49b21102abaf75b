-- The scenario of a run.
use Rattle.std.specs.Prelude.{ℕ, List}
use Rattle.sim_links.specs.Ways.{Ways}
use Rattle.sim_node.specs.declared.Setup.{Setup}

-- seed             the 32 bytes of the seed of its words
-- tick             the length of a tick (ms)
-- ways             how messages cross an open link, for each ordered pair of hosts
-- disk_latency     the latency of a sync (ms)
-- setup            the hosts
-- interval         of a tape: the number of events between two checkpoints
-- window           of a tape: the number of events that their records can undo
pub record Scenario : Type 0 where
  pub seed : List ℕ
  pub tick : ℕ
  pub ways : Ways
  pub disk_latency : ℕ
  pub setup : Setup
  pub interval : ℕ
  pub window : ℕ
