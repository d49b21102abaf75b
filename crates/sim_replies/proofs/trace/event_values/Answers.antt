use Rattle.std.proofs.Common.{◌≡◌, ◌++◌, ◌∷◌, [], sym, None, slice_get, rules}
use Rattle.serde_json.specs.View.{view}
use Rattle.sim_answers.specs.Trace.{event_value}
use Rattle.sim_replies.proofs.Shown.{next_value, no_value}
use Rattle.sim_replies.proofs.trace.event_values.Goals as goal
use Rattle.sim_replies.proofs.trace.event_values.Goals.{in-Some+in_ok-event_value+in_ok-push, in_default}

pub loop-i-preserved : goal.loop-i-preserved
loop-i-preserved c = elim c.match-get.branch [
  | in-Some+in_ok-event_value+in_ok-push w ↦
      let pushed : w.push.new.self.items ≡ c.loop-i.values.items ++ w.in_ok-event_value.field-0 ∷ [] = w.in_ok-push.ensures.items in
      rw w.values-is (rw pushed (next_value (event_value c.args.names.now) view c.loop-i.values.items c.args.events.now c.loop-i.i w.in_ok-event_value.field-0 w.in-Some.event
      c.loop-i.invariant (sym w.in-Some.ensures) w.in_ok-event_value.ensures))
  | in_default w ↦
      let none : slice_get c.args.events.now c.loop-i.i ≡ None = search rules in
      rw w.values-is (no_value (event_value c.args.names.now) view c.loop-i.values.items c.args.events.now c.loop-i.i c.loop-i.invariant none)
]
