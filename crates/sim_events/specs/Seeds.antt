-- Scenarios by their values, and those of a sweep.
use Rattle.std.specs.Prelude.{ℕ, List, ◌++◌, take}
use Rattle.std.specs.Int.{w64, to_le_bytes}
use Rattle.sim_links.specs.Ways.{Ways}
use Rattle.sim_node.specs.declared.Setup.{Setup}
use Rattle.sim_events.specs.Scenario.{Scenario}

-- the scenario of these values
abbrev pub scenario_of : List ℕ → ℕ → Ways → ℕ → Setup → ℕ → ℕ → Scenario
scenario_of seed tick ways disk_latency setup interval window =
    record {
      seed = seed;
      tick = tick;
      ways = ways;
      disk_latency = disk_latency;
      setup = setup;
      interval = interval;
      window = window;
    }

-- A sweep goes through seeds: number i is in the last eight of the seed's 32 bytes, low byte first.
abbrev pub numbered : ℕ → Scenario → Scenario
numbered i s = record s { seed = take 24 s.seed ++ to_le_bytes w64 i }
