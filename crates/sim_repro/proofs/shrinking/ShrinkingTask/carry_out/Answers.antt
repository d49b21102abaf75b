use Rattle.std.proofs.Common.{◌≡◌, ◌∙◌, ap, refl, sym, subst, Bool, true, List, Option, None, Some}
use Rattle.std.specs.Str.Lines.{lines}
use Rattle.sim_events.specs.declared.Event.{Event}
use Rattle.sim_world.specs.Events.{rules}
use Rattle.sim_watch.specs.Condition.{Cond}
use Rattle.sim_script.specs.Script.{Text, words}
use Rattle.sim_script.specs.Conditions.{condition}
use Rattle.sim_cli.specs.declared.stop.ScriptStop.{ScriptStop}
use Rattle.sim_cli.specs.Played.{IsFault, first_events}
use Rattle.sim_export.specs.Exports.{IsExported}
use Rattle.sim_cli.specs.Turns.{beginning}
use Rattle.sim_cli.specs.Strict.{are_well}
use Rattle.sim_cli.proofs.Judging.{not_all_well}
use Rattle.sim_export.specs.declared.export.Export.TheVariants.{BadCondition, BadScript}
use Rattle.sim_repro.specs.Shrinks.{IsShrinkFor, IsShrinkIf, IsShrinkOf, shrink_right}
use Rattle.sim_export.proofs.Telling.{told_export}
use Rattle.sim_repro.proofs.shrinking.ShrinkingTask.carry_out.Goals as goal

pub returns-in-Ok-export_of : goal.returns-in-Ok-export_of
returns-in-Ok-export_of g c = λ script at.
    let opened = c.args.opened.now in
    let task = c.args.self.now in
    let r = rules g.N.Node.laws g.N.Node.PROBES opened.scenario in
    let e = c.in-Ok-export_of.export in
    let given = c.in-Ok.ensures.given script at in
    let events = c.as_slice-events.ensures.value ∙ given.0 in
    let well : are_well r opened.names beginning (lines script) ≡ true = given.1 refl in
    let cond = c.in-Some.ensures.is ∙ ap (λ (t : Text). condition opened.names (words t)) c.as_bytes.ensures.value in
    let of_events = subst (λ (es : List Event). IsShrinkOf r opened.names task.text.now es c.in-Some.cond e) events c.in-Ok-export_of.ensures in
    let if_well = subst (λ (b : Bool). IsShrinkIf r opened.names task.text.now (first_events r opened.names script) b c.in-Some.cond e) (sym well) of_events in
    told_export (IsExported (shrink_right task.asked.cond.now _ _ r opened.names task.text.now script))
    e _ _ c.write_export-in-Ok-export_of.result
    (record {
      export = e;
      right = subst (λ (o : Option Cond). IsShrinkFor r opened.names task.text.now (first_events r opened.names script) (are_well r opened.names beginning (lines script)) o e) cond if_well;
      whole = refl;
      status = refl;
    })
    c.write_export-in-Ok-export_of.ensures

pub returns-in-Err-Fault : goal.returns-in-Err-Fault
returns-in-Err-Fault g c = λ script at.
    let opened = c.args.opened.now in
    let task = c.args.self.now in
    let r = rules g.N.Node.laws g.N.Node.PROBES opened.scenario in
    let events = first_events r opened.names script in
    let fault = subst (λ (s : ScriptStop). IsFault r true opened.names script s) c.in-Err-Fault.field-0-is (c.in-Err-Fault.ensures.given script at) in
    let ill = not_all_well r opened.names beginning (lines script) c.in-Err-Fault.fault fault.1 in
    let cond = c.in-Some.ensures.is ∙ ap (λ (t : Text). condition opened.names (words t)) c.as_bytes.ensures.value in
    told_export (IsExported (shrink_right task.asked.cond.now _ _ r opened.names task.text.now script))
    BadScript _ _ c.write_export-in-Err-Fault.result
    (record {
      export = BadScript;
      right = subst (λ (o : Option Cond). IsShrinkFor r opened.names task.text.now events (are_well r opened.names beginning (lines script)) o BadScript) cond
          (subst (λ (b : Bool). IsShrinkIf r opened.names task.text.now events b c.in-Some.cond BadScript) (sym ill) refl);
      whole = refl;
      status = refl;
    })
    c.write_export-in-Err-Fault.ensures

pub returns-in_default : goal.returns-in_default
returns-in_default g c = λ script at.
    let opened = c.args.opened.now in
    let task = c.args.self.now in
    let r = rules g.N.Node.laws g.N.Node.PROBES opened.scenario in
    let none : None ≡ condition opened.names (words task.asked.cond.now) =
    sym c.in_default.is ∙ (c.condition_of.ensures.is ∙ ap (λ (t : Text). condition opened.names (words t)) c.as_bytes.ensures.value) in
    told_export (IsExported (shrink_right task.asked.cond.now _ _ r opened.names task.text.now script))
    BadCondition _ _ c.write_export.result
    (record {
      export = BadCondition;
      right = subst (λ (o : Option Cond). IsShrinkFor r opened.names task.text.now (first_events r opened.names script) (are_well r opened.names beginning (lines script)) o BadCondition) none refl;
      whole = refl;
      status = refl;
    })
    c.write_export.ensures
