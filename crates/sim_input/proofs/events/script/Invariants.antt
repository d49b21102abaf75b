use Rattle.std.proofs.Common.{◌≡◌, List, Some, take, string_bytes}
use Rattle.sim_script.specs.Words.{Text}
use Rattle.sim_input.specs.Events.{event_lines, text_of}
use Rattle.sim_input.proofs.events.script.Given as goal

-- the lines of the events so far are written
abbrev pub invariant-loop-event : goal.invariant-loop-event
invariant-loop-event l = (ls : List Text) × (event_lines l.names (take l.event-index l.events) ≡ Some ls) × (string_bytes l.text ≡ text_of ls)
