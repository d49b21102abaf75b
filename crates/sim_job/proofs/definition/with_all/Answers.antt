use Rattle.std.proofs.Common.{◌∙◌, ap, sym}
use Rattle.std.proofs.lemmas.List.{take_all}
use Rattle.std.proofs.lemmas.List.Sums.{fold_more}
use Rattle.sim_job.specs.CommandLine as line
use Rattle.sim_job.specs.Described.{with_row, with_rows}
use Rattle.sim_job.proofs.Adding.{with_command}
use Rattle.sim_job.proofs.definition.with_all.Goals as goal

pub loop-row-init : goal.loop-row-init
loop-row-init c = c.bare-program.ensures

pub loop-row-preserved : goal.loop-row-preserved
loop-row-preserved c =
    with_command c.in_ok-program.ensures c.loop-row.invariant c.in_ok-subcommand_by.ensures
    ∙ sym (fold_more with_row line.bare c.args.rows.now c.loop-row.row-index _ c.loop-row-test.true)

pub returns : goal.returns
returns c = c.loop-row.invariant ∙ ap (with_rows line.bare) (take_all c.loop-row.row-index c.args.rows.now c.loop-row-test.false)
