-- What contracts see of a scenario that was read.
use Rattle.sim_scenario.specs.declared.ScenarioText.{ScenarioText as Read}
use Rattle.sim_scenario.specs.Hosts.{names_in}
use Rattle.sim_scenario.specs.Scenario.{ScenarioText}

-- the names and the values of a scenario that was read
abbrev pub seen : Read → ScenarioText
seen s = record {
  names = names_in s.names;
  protocol = s.protocol;
  seed = s.seed;
  tick = s.tick;
  ways = s.ways;
  disk_latency = s.disk_latency;
  servers = s.servers;
  ops = s.ops;
  checkpoint = s.checkpoint;
  window = s.window;
}
