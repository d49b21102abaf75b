-- How far a tape can go back after a rewind.
use Rattle.std.specs.Prelude.{ℕ, ◌+◌, ◌-◌, ◌%◌, ◌==◌, nat_le, nat_lt, min, Bool, ◌&&◌, ◌||◌}
use Rattle.std.specs.Prelude.{if◌then◌else◌}
use Rattle.sim_tape.specs.Tape.{Tape, reach_here}

-- whether a place past the reach ends a stretch: the next place has a checkpoint, or is within the
-- reach
abbrev pub ends_stretch : ℕ → Tape → Bool
ends_stretch p t = ((p + 1) % t.scenario.interval == 0) || (p + 1 == t.place - reach_here t)

-- The reach after a rewind that may go down to `low` and stops at p. Within the reach it falls by
-- the events that are undone. Past it, it is that of a walk to p from the checkpoint at or below
-- it; but a stretch is looked through without records, and where the last place of one stops the
-- rewind before `low`, none is left.
abbrev pub reach_rewound : ℕ → ℕ → Tape → ℕ
reach_rewound low p t =
    if nat_le (t.place - p) (reach_here t) then reach_here t - (t.place - p)
    else if nat_lt low p && ends_stretch p t then 0
    else min t.scenario.window (p % t.scenario.interval)
