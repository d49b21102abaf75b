-- The changes of an event that come after the usual ones.
use Rattle.std.specs.Prelude.{List, [], ◌∷◌}
use Rattle.sim_world.specs.declared.trail.Compact.{Compact}
use Rattle.sim_world.specs.declared.trail.Compact.TheVariants as compact
use Rattle.sim_world.specs.declared.trail.rest.TimerChange.{TimerChange}
use Rattle.sim_world.specs.declared.trail.rest.TimerChange.TheVariants as timer

-- the changes by which a timer was set; they come before those of the list
abbrev pub timer_changes : {State Msg Undo : Type 0} → TimerChange → List (Compact State Msg Undo)
timer_changes timer.Nothing = []
timer_changes (timer.TookTimer host due serial) = compact.TookTimer host due serial ∷ []
timer_changes timer.Queued = compact.Queued ∷ []
timer_changes (timer.Reset host due serial) =
    compact.TookTimer host due serial ∷ compact.Queued ∷ []
