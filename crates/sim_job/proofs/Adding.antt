-- A command with one more argument or subcommand.
use Rattle.std.proofs.Common.{◌≡◌, ◌∙◌, ap, ap₂, subst, false, Option, List, ◌++◌, ◌∷◌, []}
use Rattle.std.specs.Prelude.{◌||◌}
use Rattle.std.specs.Borrow.{Bor}
use Rattle.clap.specs.Words.{App, AddsArg, AddsInTurn, AddsSubcommand, Rule, Shape, Text, app_of, new_app, with_subcommand}
use Rattle.clap.specs.Simple.{shape_of_fields}
use Rattle.clap.specs.declared.builder.command.Command.TheOpen.{Command-F}
use Rattle.clap.specs.declared.builder.command.Command.TheViews.{out-Command as fields_of}
use Rattle.clap.specs.declared.builder.arg.Arg.{Arg}
use Rattle.clap.specs.declared.builder.command.Command.{Command}
use Rattle.sim_job.specs.CommandLine.{IsArgument, IsCommand, command}

-- a command that has only its name and texts
pub named : (new about help : Command) {name : Text} {x y : Option (Bor Text)} → app_of new ≡ new_app name → (fields_of new).has_globals ≡ false
    → fields_of about ≡ record (fields_of new) { about = x } → fields_of help ≡ record (fields_of about) { after_help = y }
    → IsCommand (command name []) help
named new about help {name} {x} {y} app own first then =
    let both : fields_of help ≡ record (fields_of new) { about = x; after_help = y } = then ∙ ap (λ (f : Command-F Command). record f { after_help = y }) first in record {
      is = ap shape_of_fields both ∙ ap (λ (a : App). a.top) app;
      own = ap (λ (f : Command-F Command). f.has_globals) both ∙ own;
    }

-- a shape with one more rule
abbrev pub and_rule : Shape → Rule → Shape
and_rule shape rule = record shape { rules = shape.rules ++ rule ∷ [] }

-- a command with one more argument, of its own
pub with_argument : {old new : Command} {arg : Arg} {shape : Shape} {rule : Rule} → AddsArg old arg new → IsCommand shape old → IsArgument rule arg
    → IsCommand (and_rule shape rule) new
with_argument adds command argument = record {
  is = ap (λ (a : App). a.top) (adds.shape argument.own) ∙ ap₂ and_rule command.is argument.is;
  own = adds.globals ∙ ap₂ (λ a b. a || b) command.own argument.own;
}

-- a program with one more subcommand
pub with_command : {old new sub : Command} {app : App} {shape : Shape} → AddsSubcommand old sub new → app_of old ≡ app → IsCommand shape sub
    → app_of new ≡ with_subcommand app shape
with_command adds program command = adds.shape command.own ∙ ap₂ with_subcommand program command.is
