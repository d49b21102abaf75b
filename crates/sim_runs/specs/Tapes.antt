-- What the commands do to a tape.
use Rattle.std.specs.Prelude.{◌+◌, ◌++◌, List, length}
use Rattle.sim_events.specs.declared.Event.{Event}
use Rattle.sim_tape.specs.Tape.{Tape}

-- the tape with events added at its end, and its place there
abbrev pub lengthened : List Event → Tape → Tape
lengthened new t = record t { events = t.events ++ new; place = length t.events + length new }
