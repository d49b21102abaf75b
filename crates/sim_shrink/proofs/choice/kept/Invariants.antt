use Rattle.std.proofs.Common.{◌≡◌, ◌++◌, drop}
use Rattle.sim_shrink.specs.Choices.{kept_by}
use Rattle.sim_shrink.proofs.choice.kept.Given as goal

abbrev pub invariant-loop-event : goal.invariant-loop-event
invariant-loop-event l = l.left.items ++ kept_by l.choices (drop l.event-index l.events) ≡ kept_by l.stays l.events
