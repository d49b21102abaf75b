-- What the worked runs of the protocols stand on: servers a and b and a client w with one operation are hosts 0, 1 and 2.
-- Latencies are of 10 ms, nothing is lost, the seed is of zeros.
use Rattle.std.specs.Prelude.{ℕ, ◌∷◌, List, Option, replicate, ⊤}
use Rattle.std.specs.Option.{option_map}
use Rattle.rand_core.specs.Steps.{u32_at}
use Rattle.rand_chacha.specs.Block.{quarter_round, column_round, diagonal_round, double_rounds, block_word}
use Rattle.sim_streams.specs.Word.{word}
use Rattle.sim_queue.specs.Pending.{first}
use Rattle.sim_links.specs.Ways.{all}
use Rattle.sim_node.specs.declared.Setup.{Setup}
use Rattle.sim_hosts.specs.Bytes.{number_at}
use Rattle.sim_events.specs.declared.Event.{Event}
use Rattle.sim_events.specs.declared.Event.TheVariants as event
use Rattle.sim_events.specs.declared.Query.{Query}
use Rattle.sim_events.specs.declared.View.{View}
use Rattle.sim_events.specs.Scenario.{Scenario}
use Rattle.sim_world.specs.World.{timed, wrote, held_back, one_way}
use Rattle.sim_world.specs.Events.{Rules, run, sent, asked, crash_of, booted}
use Rattle.sim_world.specs.Looks.{looked}

-- what the rows compute with
unfoldable pub on_rows : ⊤
unfolding word first timed wrote held_back one_way sent asked crash_of booted
    u32_at quarter_round column_round diagonal_round double_rounds block_word number_at lib.Count.ones
on_rows = tt

abbrev pub three_hosts : Setup
three_hosts = record { servers = 2; hosts = 3; ops = 0 ∷ 0 ∷ 1 ∷ replicate 29 0 }

abbrev pub with_setup : Setup → ℕ → Scenario
with_setup setup disk_latency = record {
  seed = replicate 32 0;
  tick = 100;
  ways = all (record { latency_min = 10; latency_max = 10; loss = 0 });
  disk_latency = disk_latency;
  setup = setup;
  interval = 4;
  window = 2;
}

-- what is seen after events, or none where one of them can't happen
abbrev pub seen : {State Msg : Type 0} → Rules State Msg → List Event → Query → Option View
seen r events q = option_map (looked r q) (run r events)

abbrev pub steps : ℕ → List Event
steps n = replicate n event.Step
