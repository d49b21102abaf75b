-- The work of a walk, counted between two states of a meter.
use Rattle.std.specs.Prelude.{◌≡◌, ℕ, ◌+◌, ◌≤◌}
use Rattle.sim_node.specs.Work.{Work}

-- n reactions were undone, and nothing else was counted
abbrev pub undone_by : ℕ → Work → Work
undone_by n w = record w { undos = w.undos + n }

-- at most t turns were counted, and nothing else
pub record OnlyTurns (t : ℕ) (old new : Work) : Type 0 where
  pub turns : new.turns ≤ old.turns + t
  pub copies : new.copies ≡ old.copies
  pub undos : new.undos ≡ old.undos

-- at most t turns and exactly c copies of nodes were counted, and no reaction was undone
pub record Plays (t c : ℕ) (old new : Work) : Type 0 where
  pub turns : new.turns ≤ old.turns + t
  pub copies : new.copies ≡ old.copies + c
  pub undos : new.undos ≡ old.undos
