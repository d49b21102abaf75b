use Rattle.std.proofs.Common.{◌∙◌, ap, map, subst, sym}
use Rattle.std.proofs.lemmas.List.{map_more, take_all}
use Rattle.sim_job.specs.CommandLine.{IsCommand, command}
use Rattle.sim_job.specs.Described.{rule_by}
use Rattle.sim_job.proofs.Adding.{named, with_argument}
use Rattle.sim_job.proofs.definition.subcommand_by.Goals as goal

pub loop-arg-init : goal.loop-arg-init
loop-arg-init c = named _ _ c.after_help-made.result c.new.ensures.app c.new.ensures.local c.about.ensures c.after_help-made.ensures

pub loop-arg-preserved : goal.loop-arg-preserved
loop-arg-preserved c =
    let more = map_more rule_by c.arguments_of-args.result.now c.loop-arg.arg-index _ c.loop-arg-test.true in
    subst (λ rules. IsCommand (command c.args.described.now.name.now rules) c.in_ok-made.made) (sym more)
    (with_argument c.in_ok-made.ensures c.loop-arg.invariant c.argument_by.ensures)

pub returns : goal.returns
returns c =
    let all = ap (map rule_by) (take_all c.loop-arg.arg-index c.arguments_of-args.result.now c.loop-arg-test.false) ∙ c.arguments_of-args.ensures in
    subst (λ rules. IsCommand (command c.args.described.now.name.now rules) c.loop-arg.made) all c.loop-arg.invariant
