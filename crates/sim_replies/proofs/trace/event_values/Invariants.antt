use Rattle.std.proofs.Common.{◌≡◌, take, map}
use Rattle.serde_json.specs.View.{view}
use Rattle.sim_answers.specs.Trace.{event_value}
use Rattle.sim_replies.proofs.trace.event_values.Given as goal

abbrev pub invariant-loop-i : goal.invariant-loop-i
invariant-loop-i l = map view l.values.items ≡ map (event_value l.names) (take l.i l.events)
