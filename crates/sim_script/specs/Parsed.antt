-- What the parsed words of a command mean.
use Rattle.std.specs.Prelude.{Option, None, Some}
use Rattle.std.specs.Option.{option_map}
use Rattle.sim_watch.specs.declared.command.Command.{Command}
use Rattle.sim_watch.specs.declared.command.Command.TheVariants as command
use Rattle.sim_script.specs.declared.ask.Parsed.{Parsed}
use Rattle.sim_script.specs.declared.ask.Parsed.TheVariants as parsed
use Rattle.sim_script.specs.Words.{Names, words}
use Rattle.sim_script.specs.Conditions.{condition}

-- the condition of a watch is read by the names
abbrev pub meant : Names → Option Parsed → Option Command
meant names None = None
meant names (Some (parsed.Plain c)) = Some c
meant names (Some (parsed.Watch b text)) =
    option_map (command.Watch b) (condition names (words text.now))
