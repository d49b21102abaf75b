use Rattle.std.proofs.Common.{◌≡◌, ◌∙◌, ap, subst, List, [], string_bytes, true}
use Rattle.std.proofs.lemmas.Result.{IfOk-weaker}
use Rattle.std.proofs.lemmas.Str.{is_utf8-from_IsUtf8}
use Rattle.std.specs.Str.{is_utf8}
use Rattle.sim_events.specs.declared.Event.{Event}
use Rattle.sim_script.specs.Script.{Text}
use Rattle.sim_events.specs.Seeds.{numbered}
use Rattle.sim_plan.specs.Happening.{planned_run}
use Rattle.sim_scenario.specs.Scenario.{read}
use Rattle.sim_reseed.specs.Numbered.{numbered_reading}
use Rattle.sim_export.specs.Exports.{Makes}
use Rattle.sim_repro.proofs.Rereading.{reread}
use Rattle.sim_repro.proofs.seed_run.input_with.Goals as goal

pub returns : goal.returns
returns g c = IfOk-weaker c.input_of.result _ _ (λ t makes protocols said e.
    let same : c.in-Ok.text.now ≡ c.args.text.now = c.in-Ok.ensures.cases.0 in
    let printed = string_bytes c.in_ok-scenario.scenario in
    let names = c.args.opened.now.names in
    let run = planned_run g.N.Node.laws g.N.Node.PROBES (numbered c.args.seed c.args.opened.now.scenario) [] c.args.plan in
    let events = c.as_slice.ensures.value ∙ c.in_ok-events.ensures in
    record {
      scenario = printed;
      read = reread protocols c.args.text.now printed c.args.seed said e (c.in_ok-scenario.ensures.reads protocols ∙ ap (λ (x : Text). numbered_reading c.args.seed (read protocols x)) same) c.in_ok-scenario.ensures.lines
          (subst (λ (bs : Text). is_utf8 bs ≡ true) c.as_str.ensures.value (is_utf8-from_IsUtf8 _ c.as_str.utf8));
      makes = subst (λ (x : Text). Makes x names run (string_bytes t)) c.as_str.ensures.value
          (subst (λ (es : List Event). Makes c.as_str.result.now names es (string_bytes t)) events makes);
    }) c.input_of.ensures.makes
