-- What a list of events shares.
use Rattle.std.specs.Prelude.{◌<◌, ◌≤◌, List, ◌++◌, length}
use Rattle.sim_history.specs.declared.event_list.Listed.{Listed}
use Rattle.sim_history.specs.Entry.{Entry}
use Rattle.sim_history.specs.Segments.{joined, AreSegments}

-- the entries, in order
abbrev pub entries_in : Listed → List Entry
entries_in l = joined l.segments.items ++ l.last.items

-- each segment has the entries of one interval, and there are at most 65,536 in all
pub record IsListed (l : Listed) : Type 0 where
  pub some : 0 < l.interval
  pub full : AreSegments l.interval l.segments.items
  pub few : length (entries_in l) ≤ 65536
