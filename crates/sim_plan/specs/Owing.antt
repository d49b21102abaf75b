-- The healings that are owed, oldest first.
use Rattle.std.specs.Prelude.{List, [], ◌∷◌}
use Rattle.sim_events.specs.declared.Fault.{Fault}
use Rattle.sim_plan.specs.declared.owed.Owed.{Owed}
use Rattle.sim_plan.specs.declared.owed.Owed.TheVariants.{Nothing, One, Two}

abbrev pub healings : Owed → List Fault
healings Nothing = []
healings (One f) = f ∷ []
healings (Two f g) = f ∷ g ∷ []
