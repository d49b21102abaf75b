use Rattle.std.proofs.Common.{rules, ◌≡◌, ◌∙◌, ◌++◌, ◌∷◌, [], ap, sym, None, Some, take, append_assoc}
use Rattle.std.specs.Str.Lines.{lines}
use Rattle.std.specs.Prelude.{map}
use Rattle.std.proofs.lemmas.List.{take_all}
use Rattle.sim_script.specs.Script.{script_line}
use Rattle.sim_input.specs.declared.events.LineError.TheVariants.{NoLine}
use Rattle.sim_input.specs.Events.{event_line, event_lines, text_of}
use Rattle.sim_input.proofs.Scripts.{one_more, none_at, take_next, text_more, script_read}
use Rattle.sim_input.proofs.events.script.Goals as goal

pub returns-in_err-push_event-clause-refused : goal.returns-in_err-push_event-clause-refused
returns-in_err-push_event-clause-refused c =
    let refused : c.in_err-push_event.field-0.0 ≡ NoLine → event_lines c.args.names.now c.args.events.now ≡ None =
    λ e. none_at (event_line c.args.names.now) c.args.events.now c.loop-event.event-index _ c.loop-event-test.true (c.in_err-push_event.ensures.refused e) in
    search (rules, refused)

pub loop-event-preserved : goal.loop-event-preserved
loop-event-preserved c =
    let before = c.loop-event.invariant in
    let line = c.in_ok-push_event.ensures.written in (
      before.0 ++ line.0 ∷ [],
      ap (event_lines c.args.names.now) (take_next c.args.events.now c.loop-event.event-index _ c.loop-event-test.true)
          ∙ one_more (event_line c.args.names.now) (take c.loop-event.event-index c.args.events.now) _ before.0 line.0 before.1 line.1,
      line.2 ∙ ap (λ t. (t ++ line.0) ++ 10 ∷ []) before.2 ∙ append_assoc (text_of before.0) line.0 (10 ∷ []) ∙ sym (text_more before.0 line.0),
    )

pub returns-clause-reads : goal.returns-clause-reads
returns-clause-reads c = λ are.
    let all = c.loop-event.invariant in
    let whole : event_lines c.args.names.now c.args.events.now ≡ Some all.0 =
    ap (event_lines c.args.names.now) (sym (take_all c.loop-event.event-index c.args.events.now c.loop-event-test.false)) ∙ all.1 in
    ap (λ t. map (script_line c.args.names.now) (lines t)) all.2 ∙ script_read c.args.names.now c.args.events.now all.0 are whole
