-- What contracts see of a log.
use Rattle.std.specs.Prelude.{Bool, List, map}
use Rattle.sim_events.specs.declared.Event.{Event}
use Rattle.sim_events.specs.Scenario.{Scenario}
use Rattle.sim_history.specs.Entry.{Entry}

-- the events, without the clocks beside them
abbrev pub events_of : List Entry → List Event
events_of entries = map (λ e. e.event) entries

-- what contracts see of a log
-- scenario   the scenario of the run
-- entries    the kept events, each with the clock after it
-- room       whether one more entry fits without memory
pub record LogView : Type 0 where
  pub scenario : Scenario
  pub entries : List Entry
  pub room : Bool
