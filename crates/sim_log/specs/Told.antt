-- What is known of an event before it happens.
use Rattle.std.specs.Prelude.{ℕ, nat_lt, ◌&&◌, List, [], Option, None, Some, if◌then◌else◌, length}
use Rattle.sim_events.specs.declared.Event.{Event}
use Rattle.sim_events.specs.declared.Event.TheVariants as event
use Rattle.sim_events.specs.declared.Fault.TheVariants as fault
use Rattle.sim_world.specs.World.{World, runs}
use Rattle.sim_world.specs.Events.{Rules}
use Rattle.sim_account.specs.Account.{tears}

module _ {State Msg : Type 0} where
  -- the host, if it exists and runs
  abbrev pub running : ℕ → World State Msg → Option ℕ
  running h w = if nat_lt h (length w.hosts) && runs h w then Some h else None

  -- the running host that an event crashes, if it crashes one
  abbrev pub crashed_by : Event → World State Msg → Option ℕ
  crashed_by (event.Fault (fault.Crash h)) w = running h w
  crashed_by (event.Fault (fault.Bounce h)) w = running h w
  crashed_by _ w = None

module _ {State Msg : Type 0} (r : Rules State Msg) where
  -- how many bytes of each unstable write of a host its crash keeps
  abbrev pub tears_of : Option ℕ → World State Msg → List ℕ
  tears_of None w = []
  tears_of (Some h) w = tears r h w
