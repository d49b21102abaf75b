use Rattle.std.proofs.Common.{◌≡◌, refl, sym, subst, Bool, true, List}
use Rattle.std.specs.Str.Lines.{lines}
use Rattle.sim_events.specs.declared.Event.{Event}
use Rattle.sim_world.specs.Events.{rules}
use Rattle.sim_events.specs.Scenario.{Scenario}
use Rattle.sim_cli.specs.declared.stop.ScriptStop.{ScriptStop}
use Rattle.sim_cli.specs.Played.{IsFault, first_events}
use Rattle.sim_export.specs.Exports.{IsExported}
use Rattle.sim_export.specs.declared.export.Export.TheVariants.{BadScript}
use Rattle.sim_export.proofs.Telling.{told_export}
use Rattle.sim_cli.specs.Turns.{beginning}
use Rattle.sim_cli.specs.Strict.{are_well}
use Rattle.sim_cli.proofs.Judging.{not_all_well}
use Rattle.sim_page.specs.Logs.{IsLogIf, IsLogOf, log_right}
use Rattle.sim_page.proofs.logging.LoggingTask.carry_out.Goals as goal

pub returns-in-Ok-log_of : goal.returns-in-Ok-log_of
returns-in-Ok-log_of g c = λ script at.
    let opened = c.args.opened.now in
    let task = c.args.self.now in
    let r = rules g.N.Node.laws g.N.Node.PROBES opened.scenario in
    let e = c.in-Ok-log_of.export in
    let played = c.in-Ok.ensures.run script at in
    let well : are_well r opened.names beginning (lines script) ≡ true = played.2 refl in
    let of_rules = subst (λ (sc : Scenario). IsLogOf (rules g.N.Node.laws g.N.Node.PROBES sc) c.in-Ok.run'.events task.range e) played.0 c.in-Ok-log_of.ensures in
    let of_events = subst (λ (es : List Event). IsLogOf r es task.range e) played.1 of_rules in
    told_export (IsExported (log_right task.range _ _ r opened.names task.text.now script))
    e _ _ c.write_export-in-Ok-log_of.result
    (record {
      export = e;
      right = subst (λ (b : Bool). IsLogIf r (first_events r opened.names script) task.range b e) (sym well) of_events;
      whole = refl;
      status = refl;
    })
    c.write_export-in-Ok-log_of.ensures

pub returns-in-Err-Fault : goal.returns-in-Err-Fault
returns-in-Err-Fault g c = λ script at.
    let opened = c.args.opened.now in
    let task = c.args.self.now in
    let r = rules g.N.Node.laws g.N.Node.PROBES opened.scenario in
    let events = first_events r opened.names script in
    let fault = subst (λ (s : ScriptStop). IsFault r true opened.names script s) c.in-Err-Fault.field-0-is (c.in-Err-Fault.ensures.run script at) in
    let ill = not_all_well r opened.names beginning (lines script) c.in-Err-Fault.fault fault.1 in
    told_export (IsExported (log_right task.range _ _ r opened.names task.text.now script))
    BadScript _ _ c.write_export.result
    (record {
      export = BadScript;
      right = subst (λ (b : Bool). IsLogIf r events task.range b BadScript) (sym ill) refl;
      whole = refl;
      status = refl;
    })
    c.write_export.ensures
