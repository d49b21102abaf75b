-- Kinds of commands, faults and terms, each of which one function reads.
use Rattle.std.specs.Prelude.{ℕ, Bool, true, false, if◌then◌else◌, codes, Option, None, Some}
use Rattle.std.specs.Str.{bytes_eq}
use Rattle.sim_events.specs.declared.Fault.{Fault}
use Rattle.sim_events.specs.declared.Fault.TheVariants as fault
use Rattle.sim_watch.specs.declared.Comparison.{Comparison}
use Rattle.sim_watch.specs.declared.Term.{Term}
use Rattle.sim_watch.specs.declared.Term.TheVariants.{All, Any, Up, NotUp, Done, NotDone}
use Rattle.sim_watch.specs.declared.command.Command.{Command}
use Rattle.sim_watch.specs.declared.command.Command.TheVariants as command
use Rattle.sim_script.specs.Words.{Text}
use Rattle.sim_script.specs.declared.condition.State.{State}
use Rattle.sim_script.specs.declared.condition.State.TheVariants as state
use Rattle.sim_script.specs.declared.script.Numbered.{Numbered}
use Rattle.sim_script.specs.declared.script.Numbered.TheVariants as kind

-- a term about the state of a host
abbrev pub state_term : State → ℕ → Term
state_term state.Up = Up
state_term state.NotUp = NotUp
state_term state.Done = Done
state_term state.NotDone = NotDone

-- a term about the values of all hosts, or of any
abbrev pub quantified : Bool → ℕ → Comparison → Term
quantified true = All
quantified false = Any

-- the command with a number that a word names
unfoldable pub numbered_by : Text → Option Numbered
numbered_by word =
    if bytes_eq word (codes "run") then Some kind.Run
    else (if bytes_eq word (codes "back") then Some kind.Back
    else (if bytes_eq word (codes "forward") then Some kind.Forward
    else (if bytes_eq word (codes "goto") then Some kind.Goto
    else (if bytes_eq word (codes "rewind") then Some kind.Rewind
    else (if bytes_eq word (codes "branch") then Some kind.Branch
    else (if bytes_eq word (codes "unwatch") then Some kind.Unwatch
    else None))))))

abbrev pub numbered_command : Numbered → ℕ → ℕ → Command
numbered_command kind.Run = command.Run
numbered_command kind.Back = command.Back
numbered_command kind.Forward = command.Forward
numbered_command kind.Goto = command.Goto
numbered_command kind.Rewind = command.Rewind
numbered_command kind.Branch = command.Branch
numbered_command kind.Unwatch = command.Unwatch

-- the fault of a link between two hosts that a word names
unfoldable pub link_fault : Text → ℕ → ℕ → Option Fault
link_fault word a b =
    if bytes_eq word (codes "hold") then Some (fault.Hold a b)
    else (if bytes_eq word (codes "release") then Some (fault.Release a b)
    else (if bytes_eq word (codes "partition") then Some (fault.Cut a b)
    else (if bytes_eq word (codes "repair") then Some (fault.Repair a b)
    else (if bytes_eq word (codes "cutoneway") then Some (fault.CutOneway a b)
    else (if bytes_eq word (codes "repaironeway") then Some (fault.RepairOneway a b)
    else None)))))
