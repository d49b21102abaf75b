use Rattle.std.proofs.Common.{true, refl, subst}
use Rattle.std.specs.Str.Lines.{lines}
use Rattle.sim_world.specs.Events.{rules}
use Rattle.sim_cli.specs.declared.stop.ScriptStop.{ScriptStop}
use Rattle.sim_cli.specs.Played.{IsFault}
use Rattle.sim_export.specs.Exports.{IsExported}
use Rattle.sim_export.specs.declared.export.Export.TheVariants.{Shown, BadCondition, BadScript}
use Rattle.sim_export.proofs.Telling.{told_export}
use Rattle.sim_cli.specs.Turns.{beginning}
use Rattle.sim_cli.proofs.Judging.{not_all_well}
use Rattle.sim_page.specs.Pages.{page_right}
use Rattle.sim_page.proofs.paging.PagingTask.carry_out.Goals as goal

pub returns-in-Ok-page_of : goal.returns-in-Ok-page_of
returns-in-Ok-page_of g c = λ script at.
    let opened = c.args.opened.now in
    let task = c.args.self.now in
    let r = rules g.N.Node.laws g.N.Node.PROBES opened.scenario in
    told_export (IsExported (page_right task.asked _ _ r opened.names task.text.now script))
    (Shown c.in-Ok-page_of.page) _ _ c.write_export-in-Ok-page_of.result
    (record {
      export = Shown c.in-Ok-page_of.page;
      right = (c.in-Ok-played.ensures.run script at).2 refl;
      whole = refl;
      status = refl;
    })
    c.write_export-in-Ok-page_of.ensures

pub returns-in-Err-BadCondition : goal.returns-in-Err-BadCondition
returns-in-Err-BadCondition g c = λ script at.
    let opened = c.args.opened.now in
    let task = c.args.self.now in
    let r = rules g.N.Node.laws g.N.Node.PROBES opened.scenario in
    told_export (IsExported (page_right task.asked _ _ r opened.names task.text.now script))
    BadCondition _ _ c.write_export.result
    (record {
      export = BadCondition;
      right = c.watched_by.ensures (cc);
      whole = refl;
      status = refl;
    })
    c.write_export.ensures

pub returns-in-Err-Fault : goal.returns-in-Err-Fault
returns-in-Err-Fault g c = λ script at.
    let opened = c.args.opened.now in
    let task = c.args.self.now in
    let r = rules g.N.Node.laws g.N.Node.PROBES opened.scenario in
    let fault = subst (λ (s : ScriptStop). IsFault r true opened.names script s) c.in-Err-Fault.field-0-is (c.in-Err-Fault.ensures.run script at) in
    told_export (IsExported (page_right task.asked _ _ r opened.names task.text.now script))
    BadScript _ _ c.write_export-in-Err-Fault.result
    (record {
      export = BadScript;
      right = not_all_well r opened.names beginning (lines script) c.in-Err-Fault.fault fault.1;
      whole = refl;
      status = refl;
    })
    c.write_export-in-Err-Fault.ensures
