-- The line of a script for each event of a run, and the command that the line gives.
use Rattle.std.specs.Prelude.{◌≡◌, ◌<◌, ℕ, codes, List, [], ◌∷◌, ◌++◌, length, Option, Some, None}
use Rattle.std.specs.Prelude.{if◌then◌else◌, ◌&&◌}
use Rattle.sim_events.specs.declared.Event.{Event}
use Rattle.sim_events.specs.declared.Event.TheVariants as event
use Rattle.sim_events.specs.declared.Fault.{Fault}
use Rattle.sim_events.specs.declared.Fault.TheVariants as fault
use Rattle.sim_watch.specs.declared.command.Command.{Command}
use Rattle.sim_watch.specs.declared.command.Command.TheVariants as command
use Rattle.sim_scenario.specs.Scenario.{all_some}
use Rattle.sim_script.specs.Words.{Text, Names, is_word, host, host_name}

-- each host's name is read as that host: it is a name, and no earlier host has the same
unfoldable pub AreRead : Names → Type 0
AreRead names = (h : ℕ) → h < length names.hosts → host names (host_name names h) ≡ Some h

module _ (names : Names) where
  -- a word and the names of one or two hosts, if they have names
  abbrev pub on_host : Text → ℕ → Option Text
  on_host word h =
      if is_word (host_name names h) then Some (word ++ (codes " " ++ host_name names h)) else None

  abbrev pub on_hosts : Text → ℕ → ℕ → Option Text
  on_hosts word a b =
      if is_word (host_name names a) && is_word (host_name names b)
      then Some (word ++ (codes " " ++ (host_name names a ++ (codes " " ++ host_name names b))))
      else None

  abbrev pub fault_line : Fault → Option Text
  fault_line (fault.Crash h) = on_host (codes "crash") h
  fault_line (fault.Bounce h) = on_host (codes "bounce") h
  fault_line (fault.Hold a b) = on_hosts (codes "hold") a b
  fault_line (fault.Release a b) = on_hosts (codes "release") a b
  fault_line (fault.Cut a b) = on_hosts (codes "partition") a b
  fault_line (fault.Repair a b) = on_hosts (codes "repair") a b
  fault_line (fault.CutOneway a b) = on_hosts (codes "cutoneway") a b
  fault_line (fault.RepairOneway a b) = on_hosts (codes "repaironeway") a b

  -- An advance of the clock has no line: no command of a script makes it.
  abbrev pub event_line : Event → Option Text
  event_line event.Step = Some (codes "step")
  event_line (event.Advance time) = None
  event_line (event.Fault f) = fault_line f

-- the command on branch 0 that makes an event with a line
abbrev pub command_of : Event → Command
command_of event.Step = command.Step 0
command_of (event.Advance time) = command.Tick 0
command_of (event.Fault f) = command.Fault 0 f

-- the text of lines, each with its line end
abbrev pub text_of : List Text → Text
text_of [] = []
text_of (line ∷ more) = line ++ (10 ∷ text_of more)

-- the lines of events, if each has one
abbrev pub event_lines : Names → List Event → Option (List Text)
event_lines names events = all_some (event_line names) events
