-- What the program's tables of arguments and subcommands say to clap.
use Rattle.std.specs.Prelude.{List, map}
use Rattle.std.specs.List.{fold}
use Rattle.clap.specs.Words.{App, Rule, Shape, Text, new_rule, with_subcommand}
use Rattle.sim_job.specs.CommandLine as line
use Rattle.sim_job.specs.CommandLine.{command, flag, optional_number}
use Rattle.sim_job.specs.declared.definition.Described.{Described}
use Rattle.sim_job.specs.declared.definition.Form.{Form}
use Rattle.sim_job.specs.declared.definition.Form.TheVariants as form
use Rattle.sim_job.specs.declared.definition.Subcommand.{Subcommand}
use Rattle.sim_job.specs.declared.definition.JobKind.{JobKind}
use Rattle.sim_job.specs.declared.definition.JobKind.TheVariants as kind

abbrev pub rule_in : Form → Text → Rule
rule_in form.Flag id = flag id
rule_in (form.Valued name defaults) id =
    record (optional_number id) { defaults = map (λ s. s.now) defaults.now }
rule_in (form.Word name required) id = record (new_rule id) { value_names = 1; required = required }

-- the argument of this row
abbrev pub rule_by : Described → Rule
rule_by row = rule_in row.form row.id.now

-- the arguments of the subcommand for a job of this kind
abbrev pub rules_of : JobKind → List Rule
rules_of kind.Play = line.play.rules
rules_of kind.Search = line.search.rules
rules_of kind.Sweep = line.sweep.rules
rules_of kind.Script = line.script.rules
rules_of kind.Shrink = line.shrink.rules
rules_of kind.Log = line.log.rules
rules_of kind.Page = line.page.rules
rules_of kind.Walk = line.walk.rules

-- the subcommand of this row
abbrev pub shape_by : Subcommand → Shape
shape_by row = command row.name.now (rules_of row.kind)

abbrev pub with_row : App → Subcommand → App
with_row app row = with_subcommand app (shape_by row)

-- the program with a subcommand for each row
abbrev pub with_rows : App → List Subcommand → App
with_rows app rows = fold with_row app rows
