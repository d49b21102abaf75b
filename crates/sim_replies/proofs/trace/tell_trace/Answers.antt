use Rattle.std.proofs.Common.{rules, ◌≡◌, ◌∙◌, ap, ◌++◌, OnOk, string_bytes}
use Rattle.serde_json.specs.View.{view}
use Rattle.serde_json.specs.Written.{compact_text, has_float}
use Rattle.sim_answers.specs.Trace.{trace_value, trace_words}
use Rattle.sim_replies.proofs.Plain.{is_plain}
use Rattle.sim_replies.proofs.trace.tell_trace.Goals as goal

pub returns : goal.returns
unfolding trace_words
returns c =
    let value_is : view c.in_ok-trace_value.field-0 ≡ trace_value c.args.names.now c.args.branch c.args.events.now = c.in_ok-trace_value.ensures in
    let plain = ap has_float value_is ∙ is_plain c.args.names.now c.args.branch c.args.events.now in
    let text_is : string_bytes c.in_ok-trace.trace ≡ compact_text (view c.in_ok-trace_value.field-0) = c.in_ok-trace.ensures.text plain in
    let words_are : string_bytes c.in_ok-trace.trace ≡ trace_words c.args.names.now c.args.branch c.args.events.now = text_is ∙ ap compact_text value_is in
    let pushed : OnOk c.extend_from_slice.result (c.extend_from_slice.new.self.items ≡ c.args.text.now.items ++ string_bytes c.in_ok-trace.trace) = search rules in
    rw words_are at pushed
