-- The command that a line gives.
use Rattle.std.specs.Prelude.{[]}
use Rattle.std.specs.Option.{unwrap_or}
use Rattle.sim_watch.specs.declared.command.Command.{Command}
use Rattle.sim_watch.specs.declared.command.Command.TheVariants as command
use Rattle.sim_script.specs.declared.ask.Parsed.{Parsed}
use Rattle.sim_script.specs.declared.ask.Parsed.TheVariants.{Plain, Watch}
use Rattle.sim_script.specs.Words.{Names, words}
use Rattle.sim_script.specs.Conditions.{condition}

-- The text of a watch is read by the names. A text that writes no condition is read as the empty
-- one, which a book refuses; a line gives no such text.
abbrev pub command_in : Names → Parsed → Command
command_in names (Plain c) = c
command_in names (Watch b text) =
    command.Watch b (unwrap_or (condition names (words text.now)) [])
